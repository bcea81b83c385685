-- The grouping by an equivalence: two signals have one number exactly when they are equivalent. Assumes nothing.
use Rattle.std.specs.Prelude.{if◌then◌else◌}
use mathlib.Core.Path.{◌≡◌, refl, sym, ap, ap₂, ◌∙◌}
use mathlib.Core.Bool.{Bool, true, false}
use mathlib.Core.List.{List, [], ◌∷◌, ◌++◌}
use Prim.Native.Nat.{ℕ, zero, suc, ◌+◌, ◌≤◌, ◌<◌}
use native.Mathlib.Omega.{arith}
use native.Mathlib.Nat.{add-suc, suc-add, add-zero, zero-add}
use lib.ListN.{length, get_or, length-append}
use lib.Dec.{eqb, ltb}
use borrow.Author.Tests.{ltb-true, ltb-false, eqb-true, eq-eqb, lt-ltb, le-ltb}
use Rattle.meaning.specs.Joint.{class, place, number_from, grouping}
use Rattle.laws.proofs.Basic.{case_bool, bool_iff}

pub record Equivalence (same : ℕ → ℕ → Bool) : Type 0 where
  pub itself : (u : ℕ) → same u u ≡ true
  pub back : (u v : ℕ) → same u v ≡ true → same v u ≡ true
  pub onward : (u v w : ℕ) → same u v ≡ true → same v w ≡ true → same u w ≡ true

-- the firsts when a signal has been placed, and when k signals have
next_firsts : (ℕ → ℕ → Bool) → ℕ → List ℕ → List ℕ
next_firsts same v firsts = if ltb (place same v firsts) (length firsts) then firsts else firsts ++ (v ∷ [])

finals : (ℕ → ℕ → Bool) → ℕ → ℕ → List ℕ → List ℕ
finals same v zero firsts = firsts
finals same v (suc k) firsts = finals same (suc v) k (next_firsts same v firsts)

module _ (same : ℕ → ℕ → Bool) where
  place_hit : (v u : ℕ) (us : List ℕ) → same u v ≡ true → place same v (u ∷ us) ≡ 0
  unfolding place
  place_hit v u us e = rw (e, place)

  place_miss : (v u : ℕ) (us : List ℕ) → same u v ≡ false → place same v (u ∷ us) ≡ suc (place same v us)
  unfolding place
  place_miss v u us e = rw (e, place)

  -- what is found in a list is found at the same place in a longer one, and is equivalent
  place-append : (w : ℕ) (xs ys : List ℕ) → place same w xs < length xs → place same w (xs ++ ys) ≡ place same w xs
  place-append w [] ys l = absurd (omega arith)
  place-append w (x ∷ xs) ys l = case_bool (same x w)
      (λ t. place_hit w x (xs ++ ys) t ∙ sym (place_hit w x xs t))
      (λ t. place_miss w x (xs ++ ys) t
      ∙ ap suc (place-append w xs ys (omega (arith, place_miss w x xs t)))
      ∙ sym (place_miss w x xs t))

  place_at : (w : ℕ) (xs : List ℕ) → place same w xs < length xs → same (get_or xs (place same w xs) 0) w ≡ true
  place_at w [] l = absurd (omega arith)
  place_at w (x ∷ xs) l = case_bool (same x w)
      (λ t. rw (place_hit w x xs t) t)
      (λ t. rw (place_miss w x xs t) (place_at w xs (omega (arith, place_miss w x xs t))))

  place-le : (w : ℕ) (xs : List ℕ) → place same w xs ≤ length xs
  place-le w [] = unfold place in omega arith
  place-le w (x ∷ xs) = case_bool (same x w)
      (λ t. rw (place_hit w x xs t) (omega arith))
      (λ t. rw (place_miss w x xs t) (omega (arith, place-le w xs)))

  place_self : (v : ℕ) (xs : List ℕ) → same v v ≡ true → place same v (xs ++ (v ∷ [])) ≡ place same v xs
  place_self v [] e = place_hit v v [] e ∙ unfold place in refl
  place_self v (x ∷ xs) e = case_bool (same x v)
      (λ t. place_hit v x (xs ++ (v ∷ [])) t ∙ sym (place_hit v x xs t))
      (λ t. place_miss v x (xs ++ (v ∷ [])) t ∙ ap suc (place_self v xs e) ∙ sym (place_miss v x xs t))

  -- the next firsts
  next_old : (v : ℕ) (xs : List ℕ) → place same v xs < length xs → next_firsts same v xs ≡ xs
  unfolding next_firsts
  next_old v xs l = rw (lt-ltb _ _ l)

  next_new : (v : ℕ) (xs : List ℕ) → length xs ≤ place same v xs → next_firsts same v xs ≡ xs ++ (v ∷ [])
  unfolding next_firsts
  next_new v xs l = rw (le-ltb _ _ l)

  -- w is found among xs
  Found : ℕ → List ℕ → Type 0
  Found w xs = place same w xs < length xs

  next_keeps : (w v : ℕ) (xs : List ℕ) → place same w xs < length xs
      → (place same w (next_firsts same v xs) ≡ place same w xs) × (place same w (next_firsts same v xs) < length (next_firsts same v xs))
  next_keeps w v xs l = case_bool (ltb (place same v xs) (length xs))
      (λ t. rw (next_old v xs (ltb-true _ _ t)) (refl, l))
      (λ t. rw (next_new v xs (ltb-false _ _ t)) (place-append w xs (v ∷ []) l, omega (arith, place-append w xs (v ∷ []) l, length-append xs (v ∷ []))))

  next_finds : (v : ℕ) (xs : List ℕ) → same v v ≡ true
      → (place same v (next_firsts same v xs) ≡ place same v xs) × (place same v (next_firsts same v xs) < length (next_firsts same v xs))
  next_finds v xs e = case_bool (ltb (place same v xs) (length xs))
      (λ t. rw (next_old v xs (ltb-true _ _ t)) (refl, ltb-true _ _ t))
      (λ t. rw (next_new v xs (ltb-false _ _ t)) (place_self v xs e, omega (arith, place_self v xs e, place-le v xs, length-append xs (v ∷ []))))

  finals_keep : (w v k : ℕ) (xs : List ℕ) → place same w xs < length xs
      → (place same w (finals same v k xs) ≡ place same w xs) × (place same w (finals same v k xs) < length (finals same v k xs))
  unfolding finals
  finals_keep w v zero xs l = (refl, l)
  finals_keep w v (suc k) xs l =
      let n = next_keeps w v xs l in
      let r = finals_keep w (suc v) k (next_firsts same v xs) n.1 in
      (r.0 ∙ n.0, r.1)

  length-number_from : (v k : ℕ) (xs : List ℕ) → length (number_from same v k xs) ≡ k
  unfolding number_from
  length-number_from v zero xs = refl
  length-number_from v (suc k) xs = ap suc (length-number_from (suc v) k _)

  pub length-grouping : (n : ℕ) → length (grouping n same) ≡ n
  unfolding grouping
  length-grouping n = length-number_from 0 n []

  module _ (equivalence : Equivalence same) where
    number_at : (v k : ℕ) (xs : List ℕ) (j : ℕ) → j < k
        → (get_or (number_from same v k xs) j 0 ≡ place same (v + j) (finals same v k xs)) × (place same (v + j) (finals same v k xs) < length (finals same v k xs))
    unfolding number_from finals next_firsts
    number_at v zero xs j l = absurd (omega arith)
    number_at v (suc k) xs zero l =
        let n = next_finds v xs (equivalence.itself v) in
        let r = finals_keep v (suc v) k (next_firsts same v xs) n.1 in
        rw (add-zero v) (sym (r.0 ∙ n.0), r.1)
    number_at v (suc k) xs (suc j) l = rw (add-suc v j, ← suc-add v j) (number_at (suc v) k (next_firsts same v xs) j (omega arith))

    -- equivalent signals agree on what they are equivalent to
    alike : (u v w : ℕ) → same u v ≡ true → same w u ≡ same w v
    alike u v w e = bool_iff (same w u) (same w v) (λ t. equivalence.onward w u v t e) (λ t. equivalence.onward w v u t (equivalence.back u v e))

    place_alike : (u v : ℕ) (xs : List ℕ) → same u v ≡ true → place same u xs ≡ place same v xs
    place_alike u v [] e = unfold place in refl
    place_alike u v (x ∷ xs) e = case_bool (same x u)
        (λ t. place_hit u x xs t ∙ sym (place_hit v x xs (sym (alike u v x e) ∙ t)))
        (λ t. place_miss u x xs t ∙ ap suc (place_alike u v xs e) ∙ sym (place_miss v x xs (sym (alike u v x e) ∙ t)))

    module _ (n : ℕ) where
      class-at : (v : ℕ) → v < n → (class (grouping n same) v ≡ place same v (finals same 0 n [])) × (place same v (finals same 0 n []) < length (finals same 0 n []))
      unfolding grouping class
      class-at v l = rw zero-add at (number_at 0 n [] v l)

      pub same_class_lem : (u v : ℕ) → u < n → v < n → same u v ≡ true → class (grouping n same) u ≡ class (grouping n same) v
      same_class_lem u v lu lv e = (class-at u lu).0 ∙ place_alike u v _ e ∙ sym (class-at v lv).0

      pub class_same : (u v : ℕ) → u < n → v < n → class (grouping n same) u ≡ class (grouping n same) v → same u v ≡ true
      class_same u v lu lv e =
          let F = finals same 0 n [] in
          let places : place same u F ≡ place same v F = sym (class-at u lu).0 ∙ e ∙ (class-at v lv).0 in
          let to-u : same (get_or F (place same u F) 0) u ≡ true = place_at u F (class-at u lu).1 in
          let to-v : same (get_or F (place same u F) 0) v ≡ true = rw places (place_at v F (class-at v lv).1) in
          equivalence.onward u _ v (equivalence.back _ u to-u) to-v

-- ## The numbering depends on nothing but the relation among the first n

AllBelow : ℕ → List ℕ → Type 0
AllBelow n [] = Unit {0}
AllBelow n (x ∷ xs) = (x < n) × AllBelow n xs

below_snoc : (n : ℕ) (xs : List ℕ) (v : ℕ) → AllBelow n xs → v < n → AllBelow n (xs ++ (v ∷ []))
unfolding AllBelow
below_snoc n [] v a l = (l, tt)
below_snoc n (x ∷ xs) v a l = (a.0, below_snoc n xs v a.1 l)

module _ (same same' : ℕ → ℕ → Bool) (n : ℕ) (ext : (u v : ℕ) → u < n → v < n → same u v ≡ same' u v) where
  place_ext : (v : ℕ) (xs : List ℕ) → v < n → AllBelow n xs → place same v xs ≡ place same' v xs
  unfolding AllBelow
  place_ext v [] l a = unfold place in refl
  place_ext v (x ∷ xs) l a = case_bool (same x v)
      (λ t. place_hit same v x xs t ∙ sym (place_hit same' v x xs (sym (ext x v a.0 l) ∙ t)))
      (λ t. place_miss same v x xs t ∙ ap suc (place_ext v xs l a.1) ∙ sym (place_miss same' v x xs (sym (ext x v a.0 l) ∙ t)))

  next_below : (v : ℕ) (xs : List ℕ) → v < n → AllBelow n xs → AllBelow n (next_firsts same v xs)
  next_below v xs l a = case_bool (ltb (place same v xs) (length xs))
      (λ t. rw (next_old same v xs (ltb-true _ _ t)) a)
      (λ t. rw (next_new same v xs (ltb-false _ _ t)) (below_snoc n xs v a l))

  next_ext : (v : ℕ) (xs : List ℕ) → v < n → AllBelow n xs → next_firsts same v xs ≡ next_firsts same' v xs
  unfolding next_firsts
  next_ext v xs l a = rw (place_ext v xs l a)

  number_ext : (v k : ℕ) (xs : List ℕ) → v + k ≤ n → AllBelow n xs → number_from same v k xs ≡ number_from same' v k xs
  unfolding number_from next_firsts
  number_ext v zero xs l a = refl
  number_ext v (suc k) xs l a =
      ap₂ ◌∷◌ (place_ext v xs (omega arith) a)
      (number_ext (suc v) k (next_firsts same v xs) (omega arith) (next_below v xs (omega arith) a)
      ∙ ap (number_from same' (suc v) k) (next_ext v xs (omega arith) a))

  pub grouping_ext : grouping n same ≡ grouping n same'
  unfolding grouping AllBelow
  grouping_ext = number_ext 0 n [] (omega arith) tt

-- ## A grouping numbered by first member is the grouping by its own classes

unfoldable pub same_class : List ℕ → ℕ → ℕ → Bool
same_class g u v = eqb (class g u) (class g v)

pub grouping_own : (same : ℕ → ℕ → Bool) → Equivalence same → (n : ℕ) → grouping n same ≡ grouping n (same_class (grouping n same))
unfolding same_class
grouping_own same equivalence n = grouping_ext same _ n (λ u v lu lv. bool_iff (same u v) _
    (λ e. eq-eqb _ _ (same_class_lem same equivalence n u v lu lv e))
    (λ e. class_same same equivalence n u v lu lv (eqb-true _ _ e)))

-- so it is determined by which signals it puts together
pub grouping_only : (g g' : List ℕ) (n : ℕ) → g ≡ grouping n (same_class g) → g' ≡ grouping n (same_class g')
    → ((u v : ℕ) → u < n → v < n → class g u ≡ class g v → class g' u ≡ class g' v)
    → ((u v : ℕ) → u < n → v < n → class g' u ≡ class g' v → class g u ≡ class g v) → g ≡ g'
unfolding same_class
grouping_only g g' n own own' to from = own ∙ grouping_ext _ _ n (λ u v lu lv. bool_iff (eqb (class g u) (class g v)) (eqb (class g' u) (class g' v))
    (λ e. eq-eqb _ _ (to u v lu lv (eqb-true _ _ e)))
    (λ e. eq-eqb _ _ (from u v lu lv (eqb-true _ _ e)))) ∙ sym own'
