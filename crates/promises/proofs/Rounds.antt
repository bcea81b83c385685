-- The rounds: each T splits the one before, they settle in fewer rounds than there are signals, and stay settled. Assumes nothing.
use Rattle.std.specs.Prelude.{if◌then◌else◌}
use mathlib.Core.Path.{◌≡◌, sym, ap, ◌∙◌, subst}
use mathlib.Core.Bool.{Bool, true, false}
use mathlib.Core.List.{List}
use Prim.Native.Nat.{ℕ, zero, suc, ◌+◌, ◌≤◌, ◌<◌}
use native.Mathlib.Omega.{arith}
use lib.ListN.{length}
use lib.Dec.{eqb, ltb}
use borrow.Author.Tests.{ltb-true, ltb-false, eqb-true, eqb-false, eq-eqb}
use Rattle.meaning.specs.Basic.{same_list}
use Rattle.meaning.specs.Sheet.{Sheet}
use Rattle.meaning.specs.Joint.{class, first, total, T, rounds}
use Rattle.laws.proofs.Basic.{case_bool, true_false, least_is, same_list-eq, same_list_refl}
use Rattle.promises.proofs.Tests.{first_is, first_of}
use Rattle.promises.proofs.Groups.{grouping_only}
use Rattle.promises.proofs.Equations.{length-T, equation_3, T_own}

-- ## How many of the first n pass a test

count : (ℕ → Bool) → ℕ → ℕ
count p zero = 0
count p (suc n) = (if p n then 1 else 0) + count p n

count_le : (p : ℕ → Bool) (n : ℕ) → count p n ≤ n
unfolding count
count_le p zero = omega arith
count_le p (suc n) = case_bool (p n) (λ t. rw t (omega (arith, count_le p n))) (λ t. rw t (omega (arith, count_le p n)))

count_pos : (p : ℕ → Bool) (n : ℕ) → 0 < n → p 0 ≡ true → 0 < count p n
unfolding count
count_pos p zero l e = absurd (omega arith)
count_pos p (suc zero) l e = rw e (omega arith)
count_pos p (suc (suc n)) l e = omega (arith, count_pos p (suc n) (omega arith) e)

module _ (p q : ℕ → Bool) where
  count_mono : (n : ℕ) → ((v : ℕ) → v < n → p v ≡ true → q v ≡ true) → count p n ≤ count q n
  unfolding count
  count_mono zero h = omega arith
  count_mono (suc n) h =
      let r = count_mono n (λ v l. h v (omega arith)) in
      case_bool (p n)
      (λ t. rw (t, h n (omega arith) t) (omega (arith, r)))
      (λ t. rw t (omega (arith, r)))

  -- if they are no more, they are the same
  count_same : (n : ℕ) → ((v : ℕ) → v < n → p v ≡ true → q v ≡ true) → count q n ≤ count p n → (v : ℕ) → v < n → q v ≡ true → p v ≡ true
  unfolding count
  count_same zero h c v l e = absurd (omega arith)
  count_same (suc n) h c v l e =
      let m = count_mono n (λ v l. h v (omega arith)) in
      case_bool (eqb v n)
      (λ t. let here : v ≡ n = eqb-true v n t in
      case_bool (p n) (λ s. rw here s) (λ s. absurd (last s (rw here at e) m)))
      (λ t. let other = eqb-false v n t in
      count_same n (λ v l. h v (omega arith)) (fewer m) v (omega arith) e)
    where
      last : p n ≡ false → q n ≡ true → count p n ≤ count q n → ⊥
      last a b m = let c' : 1 + count q n ≤ 0 + count p n = rw (a, b) at c in omega arith

      fewer : count p n ≤ count q n → count q n ≤ count p n
      fewer m = case_bool (p n)
          (λ t. let c' : 1 + count q n ≤ 1 + count p n = rw (t, h n (omega arith) t) at c in omega arith)
          (λ t. case_bool (q n)
          (λ s. let c' : 1 + count q n ≤ 0 + count p n = rw (t, s) at c in omega arith)
          (λ s. let c' : 0 + count q n ≤ 0 + count p n = rw (t, s) at c in omega arith))

-- ## A grouping that splits another

is_first : List ℕ → ℕ → Bool
is_first g v = eqb (first g v) v

module _ (g g' : List ℕ) (n : ℕ) (known : length g ≡ n) (known' : length g' ≡ n)
    (finer : (u v : ℕ) → u < n → v < n → class g' u ≡ class g' v → class g u ≡ class g v) where
  first_down : (v : ℕ) → v < n → is_first g v ≡ true → is_first g' v ≡ true
  unfolding is_first
  first_down v l e =
      let r' = first_is g' v (omega arith) in
      let lu : first g' v < n = omega (arith, r'.1) in
      let c : class g (first g' v) ≡ class g v = finer (first g' v) v lu l r'.0 in
      let to : first g (first g' v) ≡ first g v = first_of g (first g' v) v c in
      let r = first_is g (first g' v) (omega arith) in
      eq-eqb (first g' v) v (omega (arith, r.1, r'.1, to, eqb-true (first g v) v e))

  -- where the firsts are no more, the two are one relation
  no_split : count (is_first g') n ≤ count (is_first g) n → (u v : ℕ) → u < n → v < n → class g u ≡ class g v → class g' u ≡ class g' v
  unfolding is_first
  no_split c u v lu lv e =
      sym (first_is g' u (omega arith)).0 ∙ ap (class g') (at u lu ∙ first_of g u v e ∙ sym (at v lv)) ∙ (first_is g' v (omega arith)).0
    where
      at : (w : ℕ) → w < n → first g' w ≡ first g w
      at w l =
          let r' = first_is g' w (omega arith) in
          let lf : first g' w < n = omega (arith, r'.1) in
          let itself : first g' (first g' w) ≡ first g' w = first_of g' (first g' w) w r'.0 in
          let old : first g (first g' w) ≡ first g' w = eqb-true _ _ (count_same (is_first g) (is_first g') n first_down c (first g' w) lf (eq-eqb _ _ itself)) in
          sym old ∙ first_of g (first g' w) w (finer (first g' w) w lf l r'.0)

-- ## T

module _ (A B : Sheet) (p : List ℕ) where
  -- each splits the one before
  pub T_finer : (i u v : ℕ) → u < total A B → v < total A B
      → class (T A B p (suc i)) u ≡ class (T A B p (suc i)) v → class (T A B p i) u ≡ class (T A B p i) v
  T_finer i u v lu lv e = ((equation_3 A B p i u v lu lv).0 e).0

  classes_of : ℕ → ℕ
  classes_of i = count (is_first (T A B p i)) (total A B)

  -- no more classes: no change
  stuck : (i : ℕ) → classes_of (suc i) ≤ classes_of i → T A B p i ≡ T A B p (suc i)
  unfolding classes_of
  stuck i c = grouping_only (T A B p i) (T A B p (suc i)) (total A B) (T_own A B p i) (T_own A B p (suc i))
      (no_split (T A B p i) (T A B p (suc i)) (total A B) (length-T A B p i) (length-T A B p (suc i)) (T_finer i) c)
      (T_finer i)

  grow : 0 < total A B → (i : ℕ) → ((j : ℕ) → j < i → same_list (T A B p j) (T A B p (suc j)) ≡ false) → i < classes_of i
  unfolding classes_of is_first
  grow pos zero h = count_pos _ (total A B) pos (eq-eqb _ 0 (zero-first (first_is (T A B p 0) 0 (omega (arith, length-T A B p 0))).1))
    where
      zero-first : {k : ℕ} → k ≤ 0 → k ≡ 0
      zero-first l = omega arith
  grow pos (suc i) h =
      let r = grow pos i (λ j l. h j (omega arith)) in
      case_bool (ltb (classes_of i) (classes_of (suc i)))
      (λ t. omega (arith, ltb-true (classes_of i) (classes_of (suc i)) t, r))
      (λ t. true_false (same_list (T A B p i) (T A B p (suc i)))
      (subst (λ (l : List ℕ). same_list (T A B p i) l ≡ true) (stuck i (ltb-false _ _ t)) (same_list_refl (T A B p i)))
      (h i (omega arith)))

  -- fewer than the signals
  pub rounds-lt : 0 < total A B → rounds A B p < total A B
  unfolding rounds classes_of
  rounds-lt pos =
      let r = least_is 0 (total A B) (λ i. same_list (T A B p i) (T A B p (suc i))) in
      case_bool (ltb (rounds A B p) (total A B)) (λ t. ltb-true (rounds A B p) (total A B) t)
      (λ t. absurd (omega (
        arith,
        ltb-false (rounds A B p) (total A B) t,
        r.upto,
        count_le (is_first (T A B p (total A B))) (total A B),
        grow pos (total A B) (λ j l. r.before j (omega arith) (omega (arith, ltb-false (rounds A B p) (total A B) t))),
      )))

  -- there T does not change any more
  pub rounds_fixed : 0 < total A B → T A B p (rounds A B p) ≡ T A B p (suc (rounds A B p))
  unfolding rounds
  rounds_fixed pos =
      let r = least_is 0 (total A B) (λ i. same_list (T A B p i) (T A B p (suc i))) in
      same_list-eq _ _ (r.here (omega (arith, rounds-lt pos)))

  -- and before it changes at each round
  pub rounds-least : (i : ℕ) → i < rounds A B p → T A B p i ≡ T A B p (suc i) → ⊥
  unfolding rounds
  rounds-least i l e = true_false (same_list (T A B p i) (T A B p (suc i)))
      (subst (λ (g : List ℕ). same_list (T A B p i) g ≡ true) e (same_list_refl (T A B p i)))
      ((least_is 0 (total A B) (λ i. same_list (T A B p i) (T A B p (suc i)))).before i (omega arith) l)
