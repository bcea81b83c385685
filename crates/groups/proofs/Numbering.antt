-- Numbering in order of first member, signal by signal. Assumes nothing.
use Rattle.std.specs.Prelude.{if◌then◌else◌}
use mathlib.Core.Path.{◌≡◌, refl, sym, ap, ◌∙◌}
use mathlib.Core.Bool.{Bool, true, false}
use mathlib.Core.List.{List, [], ◌∷◌, ◌++◌, append_assoc, append-nil}
use Prim.Native.Nat.{ℕ, zero, suc, ◌+◌, ◌-◌, ◌<◌, ◌≤◌, max}
use native.Mathlib.Omega.{arith}
use native.Mathlib.Numerals.{add-one}
use borrow.Author.Count.{below_more}
use borrow.Author.Tests.{ltb-true, ltb-false, lt-ltb, le-ltb}
use lib.ListN.{length, get_or, set, take, length-set, length-append, get_or-append}
use lib.Seq.{get_or-set_same, get_or-set_other, take-suc-set, take_all, length-take-le, get_or-take, get_or_at}
use lib.Dec.{ltb}
use Rattle.meaning.specs.Basic.{least_from}
use Rattle.meaning.specs.Joint.{class, place, number_from, grouping}
use Rattle.laws.proofs.Basic.{case_bool, least_is, least_upto}
use Rattle.promises.proofs.Groups.{Equivalence, same_class_lem}
use Rattle.groups.proofs.Least.{least_all, least_later}

module _ (same : ℕ → ℕ → Bool) where
  -- the place of v is the least at which a first member goes with v
  place-least : (v : ℕ) (firsts : List ℕ) → place same v firsts ≡ least_from 0 (length firsts) (λ i. same (get_or firsts i 0) v)
  unfolding place least_from
  place-least v [] = refl
  place-least v (u ∷ us) =
      let rest : suc (place same v us) ≡ least_from 1 (length us) (λ i. same (get_or (u ∷ us) i 0) v) =
      ap suc (place-least v us) ∙ sym (least_later 0 (length us) (λ i. same (get_or (u ∷ us) i 0) v)) in
      case_bool (same u v) (λ t. rw (t, place, least_from)) (λ t. rw (t, place, least_from) rest)

  place_upto : (v : ℕ) (firsts : List ℕ) → place same v firsts ≤ length firsts
  place_upto v firsts = rw (place-least v firsts) (least_upto (length firsts) _)

  -- where no first member goes with v, its place is the next
  place-next : (v : ℕ) (firsts : List ℕ) → ((i : ℕ) → i < length firsts → same (get_or firsts i 0) v ≡ false) → place same v firsts ≡ length firsts
  place-next v firsts none = place-least v firsts ∙ sym (least_all (length firsts) _ none)

  -- ## A class number is below n

  number_upto : (v k : ℕ) (firsts : List ℕ) → length firsts ≤ v → (j : ℕ) → j < k → get_or (number_from same v k firsts) j 0 ≤ v + j
  unfolding number_from
  number_upto v zero firsts few j l = absurd (omega arith)
  number_upto v (suc k) firsts few zero l = omega (arith, place_upto v firsts)
  number_upto v (suc k) firsts few (suc j) l =
      let next : List ℕ = if ltb (place same v firsts) (length firsts) then firsts else firsts ++ (v ∷ []) in
      let few' : length next ≤ suc v = case_bool (ltb (place same v firsts) (length firsts))
      (λ t. rw t (omega arith))
      (λ t. rw t (omega (arith, length-append firsts (v ∷ [])))) in
      omega (arith, number_upto (suc v) k next few' j (omega arith))

  pub grouping_below : (n i : ℕ) → i < n → get_or (grouping n same) i 0 < n
  unfolding grouping
  grouping_below n i l = omega (arith, number_upto 0 n [] (omega arith) i l)

  -- ## The signals below v are numbered, in `count` classes with these first members

  pub record Numbered (n : ℕ) (out : List ℕ) (count v : ℕ) : Type 0 where
    pub size : length out ≡ n
    pub within : v ≤ n
    pub small : count ≤ v
    pub firsts : List ℕ
    pub many : length firsts ≡ count
    pub lower : (i : ℕ) → i < count → get_or firsts i 0 < v
    pub used : (x : ℕ) → x < v → get_or out x 0 < count
    pub rest : take v out ++ number_from same v (n - v) firsts ≡ grouping n same

  pub numbered_none : (n : ℕ) (out : List ℕ) → length out ≡ n → Numbered n out 0 0
  unfolding grouping
  numbered_none n out size = record {
    size = size;
    within = omega arith;
    small = omega arith;
    firsts = [];
    many = refl;
    lower = λ i l. absurd (omega arith);
    used = λ x l. absurd (omega arith);
    rest = let all : n - 0 ≡ n = omega arith in rw all;
  }

  pub numbered_all : (n : ℕ) (out : List ℕ) (count v : ℕ) → Numbered n out count v → n ≤ v → out ≡ grouping n same
  unfolding number_from
  numbered_all n out count v so all =
      let none : n - v ≡ 0 = omega arith in
      sym (append-nil out) ∙ rw (none, take_all v out (omega (arith, so.size))) at so.rest

  -- v is numbered, as the first member of its class is, or, where that is v itself, by the next number
  module _ (equivalence : Equivalence same) (n : ℕ) (out : List ℕ) (count v : ℕ) (so : Numbered n out count v) (inside : v < n) where
    -- the class numbers of the signals below v, and of v
    at : (x : ℕ) → x < v → class (grouping n same) x ≡ get_or out x 0
    unfolding class
    at x l =
        let long : length (take v out) ≡ v = length-take-le v out (omega (arith, so.size)) in
        rw (← so.rest) (get_or-append (take v out) _ 0 x (omega arith) ∙ get_or-take v out x 0 l)

    head : take v out ++ number_from same v (suc (n - suc v)) so.firsts ≡ grouping n same
    head = let more : n - v ≡ suc (n - suc v) = omega arith in rw more at so.rest

    here : class (grouping n same) v ≡ place same v so.firsts
    unfolding class number_from
    here = rw (← head) (get_or_at (take v out) _ _ 0 v (length-take-le v out (omega (arith, so.size))))

    step : (c : ℕ) (firsts : List ℕ) → place same v so.firsts ≡ c
        → (if ltb c (length so.firsts) then so.firsts else so.firsts ++ (v ∷ [])) ≡ firsts
        → take (v + 1) (set out v c) ++ number_from same (v + 1) (n - (v + 1)) firsts ≡ grouping n same
    unfolding number_from
    step c firsts is next =
        rw (add-one v, take-suc-set out v c (omega (arith, so.size)), append_assoc (take v out) (c ∷ []) _, ← next, ← is) head

    used_more : (c more : ℕ) → count ≤ more → c < more → (x : ℕ) → x < v + 1 → get_or (set out v c) x 0 < more
    used_more c more l lc = below_more (λ x. get_or (set out v c) x 0 < more) v
        (λ x lx. rw (get_or-set_other out v x c 0 (λ e. omega arith)) (omega (arith, so.used x lx)))
        (rw (get_or-set_same out v c 0 (omega (arith, so.size))) lc)

    numbered_old : (u : ℕ) → u < v → same u v ≡ true → Numbered n (set out v (get_or out u 0)) count (v + 1)
    numbered_old u l goes =
        let c : ℕ = get_or out u 0 in
        let is : place same v so.firsts ≡ c = sym here ∙ sym (same_class_lem same equivalence n u v (omega arith) inside goes) ∙ at u l in
        record {
          size = length-set out v c ∙ so.size;
          within = omega arith;
          small = omega (arith, so.small);
          firsts = so.firsts;
          many = so.many;
          lower = λ i li. omega (arith, so.lower i li);
          used = used_more c count (omega arith) (so.used u l);
          rest = step c so.firsts is (rw (lt-ltb c (length so.firsts) (omega (arith, so.used u l, so.many))));
        }

    numbered_new : ((x : ℕ) → x < v → same x v ≡ false) → Numbered n (set out v count) (count + 1) (v + 1)
    numbered_new none =
        let is : place same v so.firsts ≡ length so.firsts = place-next v so.firsts (λ i li. none _ (so.lower i (omega (arith, so.many)))) in
        record {
          size = length-set out v count ∙ so.size;
          within = omega arith;
          small = omega (arith, so.small);
          firsts = so.firsts ++ (v ∷ []);
          many = length-append so.firsts (v ∷ []) ∙ ap (λ (x : ℕ). x + 1) so.many;
          lower = below_more (λ i. get_or (so.firsts ++ (v ∷ [])) i 0 < v + 1) count
              (λ i li. rw (get_or-append so.firsts (v ∷ []) 0 i (omega (arith, so.many))) (omega (arith, so.lower i li)))
              (rw (get_or_at so.firsts v [] 0 count so.many) (omega arith));
          used = used_more count (count + 1) (omega arith) (omega arith);
          rest = step count (so.firsts ++ (v ∷ [])) (is ∙ so.many) (rw (le-ltb count (length so.firsts) (omega (arith, so.many))));
        }

    pub numbered_next : (u : ℕ) → u ≡ least_from 0 n (λ x. same x v) → u ≤ v
        → (c : ℕ) → (u < v → c ≡ get_or out u 0) → (v ≤ u → c ≡ count)
        → (more : ℕ) → more ≡ max count (c + 1) → Numbered n (set out v c) more (v + 1)
    numbered_next u first upto c old new more counts =
        let r = least_is 0 n (λ x. same x v) in
        case_bool (ltb u v)
        (λ t. let l = ltb-true u v t in
        let is : c ≡ get_or out u 0 = old l in
        let all : more ≡ count = omega (arith, so.used u l) in
        rw (all, is) (numbered_old u l (rw (← first) at (r.here (omega (arith, first))))))
        (λ t. let l = ltb-false u v t in
        let is : c ≡ count = new l in
        let all : more ≡ count + 1 = omega arith in
        rw (all, is) (numbered_new (λ x lx. r.before x (omega arith) (omega (arith, first)))))
