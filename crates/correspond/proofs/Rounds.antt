-- Laws of the rounds: how they go on, settle, and run out of room. Assumes nothing.
use mathlib.Core.Path.{◌≡◌, sym, ap, ◌∙◌, subst}
use mathlib.Core.Bool.{true, false}
use mathlib.Core.List.{List}
use Prim.Native.Nat.{ℕ, suc, ◌≤◌, ◌<◌, max}
use native.Mathlib.Omega.{arith}
use lib.Dec.{ltb, eqb}
use borrow.Author.Tests.{ltb-true, ltb-false, eqb-true, eqb-false}
use Rattle.meaning.specs.Basic.{same_list}
use Rattle.meaning.specs.Sheet.{Sheet}
use Rattle.meaning.specs.Joint.{total, grouping, step_same, T, rounds}
use Rattle.meaning.specs.Room.{start_count, step_count}
use Rattle.laws.proofs.Basic.{case_bool, true_false, same_list-eq, same_list_refl}
use Rattle.promises.specs.Calls.{LeastFailing, Greatest, Worked}
use Rattle.promises.proofs.Rounds.{rounds-lt, rounds_fixed}
use Rattle.correspond.specs.Rounds.{GreatestBelow, Running}

greatest_more : (base : ℕ) (c : ℕ → ℕ) (r m : ℕ) → GreatestBelow base c r m → GreatestBelow base c (suc r) (max m (c r))
greatest_more base c r m g = record {
  from = omega (arith, g.from);
  each = each;
  least = λ k l h. omega (arith, g.least k l (λ i q. h i (omega arith)), h r (omega arith));
}
  where
    each : (i : ℕ) → i < suc r → c i ≤ max m (c r)
    each i l = case_bool (eqb i r)
        (λ t. let here : i ≡ r = eqb-true i r t in rw here (omega arith))
        (λ t. let other = eqb-false i r t in omega (arith, g.each i (omega arith)))

-- instead of base there may be any base' that comes to the same beside c 0
greatest_end : (base base' : ℕ) (c : ℕ → ℕ) (r m : ℕ) → max base (c 0) ≡ max base' (c 0) → GreatestBelow base c (suc r) m → Greatest base' c r m
greatest_end base base' c r m e g = record {
  base = omega (arith, e, g.from, g.each 0 (omega arith));
  each = λ i l. g.each i (omega arith);
  least = λ k l h. g.least k (omega (arith, e, l, h 0 (omega arith))) (λ i q. h i (omega arith));
}

module _ (N base : ℕ) (A B : Sheet) (p : List ℕ) where
  module _ (r : ℕ) (g : List ℕ) (m : ℕ) (run : Running N base A B p r g m) where
    -- the grouping that the next round makes
    pub running-next : grouping (total A B) (step_same A B g) ≡ T A B p (suc r)
    unfolding T
    running-next = ap (λ (g : List ℕ). grouping (total A B) (step_same A B g)) run.grouping

    count_here : step_count A B g ≡ step_count A B (T A B p r)
    count_here = ap (step_count A B) run.grouping

    fitted_more : step_count A B g ≤ N → (i : ℕ) → i < suc r → step_count A B (T A B p i) ≤ N
    fitted_more room i l = case_bool (eqb i r)
        (λ t. let here : i ≡ r = eqb-true i r t in rw (here, ← count_here) room)
        (λ t. let other = eqb-false i r t in run.fitted i (omega arith))

    most_more : GreatestBelow base (λ i. step_count A B (T A B p i)) (suc r) (max m (step_count A B g))
    most_more = rw count_here (greatest_more base (λ i. step_count A B (T A B p i)) r m run.most)

    -- the round changed the grouping
    pub running_more : step_count A B g ≤ N → same_list g (grouping (total A B) (step_same A B g)) ≡ false
        → Running N base A B p (suc r) (grouping (total A B) (step_same A B g)) (max m (step_count A B g))
    running_more room e = record { grouping = running-next; changed = changed; fitted = fitted_more room; most = most_more }
      where
        differ : T A B p r ≡ T A B p (suc r) → ⊥
        differ q = true_false (same_list g (grouping (total A B) (step_same A B g)))
            (subst (λ (h : List ℕ). same_list g h ≡ true) (run.grouping ∙ q ∙ sym running-next) (same_list_refl g)) e

        changed : (i : ℕ) → i < suc r → T A B p i ≡ T A B p (suc i) → ⊥
        changed i l = case_bool (eqb i r)
            (λ t. let here : i ≡ r = eqb-true i r t in rw here differ)
            (λ t. let other = eqb-false i r t in run.changed i (omega arith))

    -- the round left it as it was
    pub running-settled : start_count A B ≤ N → max base (step_count A B (T A B p 0)) ≡ max (start_count A B) (step_count A B (T A B p 0))
        → step_count A B g ≤ N → same_list g (grouping (total A B) (step_same A B g)) ≡ true → Worked A B p N r (max m (step_count A B g))
    running-settled start e room same = record {
      rounds = record { settled = sym run.grouping ∙ same_list-eq g _ same ∙ running-next; least = run.changed };
      start-room = start;
      step_room = λ i l. fitted_more room i (omega arith);
      greatest = greatest_end base (start_count A B) (λ i. step_count A B (T A B p i)) r _ e most_more;
    }

    -- the rounds that change something are fewer than the signals
    pub running_few : 0 < total A B → r < total A B
    running_few pos = case_bool (ltb (rounds A B p) r)
        (λ t. absurd (run.changed (rounds A B p) (ltb-true _ _ t) (rounds_fixed A B p pos)))
        (λ t. omega (arith, ltb-false (rounds A B p) r t, rounds-lt A B p pos))

    -- the round has no room
    pub running_over : 0 < total A B → N < step_count A B g → LeastFailing (suc (rounds A B p)) (λ i. step_count A B (T A B p i) ≤ N) r
    running_over pos over = record { below = near; fails = λ l. omega (arith, l, over, count_here); before = run.fitted }
      where
        near : r < suc (rounds A B p)
        near = case_bool (ltb (rounds A B p) r)
            (λ t. absurd (run.changed (rounds A B p) (ltb-true _ _ t) (rounds_fixed A B p pos)))
            (λ t. omega (arith, ltb-false (rounds A B p) r t))
