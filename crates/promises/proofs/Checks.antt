-- What check answers on two sheets and a grouping, exactly. Assumes nothing.
use mathlib.Core.Path.{◌≡◌, sym, ◌∙◌}
use mathlib.Core.Bool.{true, false}
use mathlib.Core.List.{List}
use mathlib.Core.Logic.{◌↔◌}
use Prim.Native.Nat.{ℕ, ◌<◌}
use native.Mathlib.Omega.{arith}
use native.Mathlib.Nat.{le_of_eq}
use lib.ListN.{length}
use lib.Dec.{ltb}
use borrow.Author.Tests.{ltb-true, ltb-false, lt-ltb, le-ltb}
use Rattle.meaning.specs.Numbers.{OUTPUTS}
use Rattle.meaning.specs.Sheet.{Sheet}
use Rattle.meaning.specs.Joint.{first, total, start_same, step_same, start_fault, step_fault, output_fault}
use Rattle.meaning.specs.Room.{start_count, step_count}
use Rattle.meaning.specs.Answer.{Answer, equivalent, undecided, outputs_verdict, check_verdict}
use Rattle.laws.proofs.Basic.{case_bool}
use Rattle.promises.specs.Correspondence.{StartEqual, StepEqual, Start, Step, PairedAt, PairedOutputs}
use Rattle.promises.specs.Calls.{LeastFailing, StartHolds, StepHolds, CheckSays, no_start-room, no_start, no_step-room, no_step, unpaired, all_hold}
use Rattle.promises.proofs.Tests.{first_is, first_together, within_classes, start_iff, step_iff, paired_iff}
use Rattle.promises.proofs.Least.{least_bad, bad_fails, none_fails, fails_bad, all_none}

module _ (A B : Sheet) (g : List ℕ) (known : length g ≡ total A B) where
  -- ## The tests against the first of each class

  start_test : (v : ℕ) → v < total A B → (start_same A B g (first g v) v ≡ true) ↔ StartEqual A B (first g v) v
  start_test v l =
      let r = start_iff A B g (first g v) v in
      ((λ t. (r.0 t).1), (λ s. r.1 ((first_is g v (omega arith)).0, s)))

  step_test : (v : ℕ) → v < total A B → (step_same A B g (first g v) v ≡ true) ↔ StepEqual A B g (first g v) v
  step_test v l =
      let r = step_iff A B g known (first g v) v in
      ((λ t. (r.0 t).1), (λ s. r.1 ((first_is g v (omega arith)).0, s)))

  first-start : ((v : ℕ) → v < total A B → StartEqual A B (first g v) v) → Start A B g
  unfolding Start StartEqual
  first-start each u v t = within_classes A B g known (StartEqual A B) (λ u v w p q x l. sym (p x l) ∙ q x l) each u v t

  first_step : ((v : ℕ) → v < total A B → StepEqual A B g (first g v) v) → Step A B g
  unfolding Step StepEqual
  first_step each u v t =
      within_classes A B g known (StepEqual A B g) (λ u v w p q s x y k l m a. sym (p s x y k l m a) ∙ q s x y k l m a) each u v t

  start_first : Start A B g → (v : ℕ) → v < total A B → StartEqual A B (first g v) v
  unfolding Start
  start_first s v l = s (first g v) v (first_together A B g known v l)

  step-first : Step A B g → (v : ℕ) → v < total A B → StepEqual A B g (first g v) v
  unfolding Step
  step-first s v l = s (first g v) v (first_together A B g known v l)

  -- ## Start, Step and paired outputs hold exactly when no fault is found

  pub start_exactly : (start_fault A B g ≡ total A B) ↔ Start A B g
  unfolding start_fault least_bad
  start_exactly = (
    (λ e. first-start (none_fails (total A B) _ _ start_test (le_of_eq (sym e)))),
    (λ s. all_none (total A B) _ _ start_test (start_first s)),
  )

  pub step_exactly : (step_fault A B g ≡ total A B) ↔ Step A B g
  unfolding step_fault least_bad
  step_exactly = (
    (λ e. first_step (none_fails (total A B) _ _ step_test (le_of_eq (sym e)))),
    (λ s. all_none (total A B) _ _ step_test (step-first s)),
  )

  -- ## The answer

  pub check_says : (N : ℕ) → CheckSays N A B g (check_verdict N A B g)
  unfolding check_verdict outputs_verdict start_fault step_fault output_fault least_bad PairedOutputs
  check_says N = case_bool (ltb N (start_count A B)) (λ t. no_start-room (ltb-true _ _ t) (rw t))
      λ t. case_bool (ltb (start_fault A B g) (total A B))
      (λ u. no_start (ltb-false _ _ t) (start_fault A B g) (bad_fails (total A B) _ _ start_test (ltb-true _ _ u)) (rw (t, u)))
      λ u. let start : StartHolds N A B g = record { room = ltb-false _ _ t; start = first-start (none_fails (total A B) _ _ start_test (ltb-false _ _ u)) } in
      case_bool (ltb N (step_count A B g)) (λ w. no_step-room start (ltb-true _ _ w) (rw (t, u, w)))
      λ w. case_bool (ltb (step_fault A B g) (total A B))
      (λ x. no_step start (ltb-false _ _ w) (step_fault A B g) (bad_fails (total A B) _ _ step_test (ltb-true _ _ x)) (rw (t, u, w, x)))
      λ x. let step : StepHolds N A B g = record { before = start; room = ltb-false _ _ w; step = first_step (none_fails (total A B) _ _ step_test (ltb-false _ _ x)) } in
      case_bool (ltb (output_fault A B g) (length A.outputs))
      (λ y. unpaired step (output_fault A B g) (bad_fails (length A.outputs) _ _ (λ i l. paired_iff A B g i) (ltb-true _ _ y)) (rw (t, u, w, x, y)))
      λ y. all_hold step (none_fails (length A.outputs) _ _ (λ i l. paired_iff A B g i) (ltb-false _ _ y)) (rw (t, u, w, x, y))

  no_start_fault : Start A B g → ltb (start_fault A B g) (total A B) ≡ false
  no_start_fault s = le-ltb _ _ (le_of_eq (sym (start_exactly.1 s)))

  no_step_fault : Step A B g → ltb (step_fault A B g) (total A B) ≡ false
  no_step_fault s = le-ltb _ _ (le_of_eq (sym (step_exactly.1 s)))

  -- the least unpaired output, and none
  pub unpaired_verdict : (i r nodes : ℕ) → LeastFailing (length A.outputs) (PairedAt A B g) i
      → outputs_verdict A B g r nodes ≡ undecided OUTPUTS i r nodes
  unfolding outputs_verdict output_fault least_bad
  unpaired_verdict i r nodes f =
      let e : output_fault A B g ≡ i = fails_bad (length A.outputs) _ _ (λ i l. paired_iff A B g i) i f in
      rw (e, lt-ltb _ _ f.below)

  pub paired_verdict : (r nodes : ℕ) → PairedOutputs A B g → outputs_verdict A B g r nodes ≡ equivalent r nodes
  unfolding outputs_verdict output_fault least_bad PairedOutputs
  paired_verdict r nodes pairs =
      rw (le-ltb _ _ (le_of_eq (sym (all_none (length A.outputs) _ _ (λ i l. paired_iff A B g i) pairs))))

  pub check_only : (N : ℕ) (x : Answer) → CheckSays N A B g x → check_verdict N A B g ≡ x
  unfolding check_verdict
  check_only N x (no_start-room l e) = rw (lt-ltb _ _ l) (sym e)
  check_only N x (no_start room i f e) =
      let at : start_fault A B g ≡ i = unfold start_fault least_bad in (fails_bad (total A B) _ _ start_test i f) in
      rw (le-ltb _ _ room, at, lt-ltb _ _ f.below) (sym e)
  check_only N x (no_step-room s l e) = rw (le-ltb _ _ s.room, no_start_fault s.start, lt-ltb _ _ l) (sym e)
  check_only N x (no_step s room i f e) =
      let at : step_fault A B g ≡ i = unfold step_fault least_bad in (fails_bad (total A B) _ _ step_test i f) in
      rw (le-ltb _ _ s.room, no_start_fault s.start, le-ltb _ _ room, at, lt-ltb _ _ f.below) (sym e)
  check_only N x (unpaired s i f e) =
      rw (le-ltb _ _ s.before.room, no_start_fault s.before.start, le-ltb _ _ s.room, no_step_fault s.step)
      (unpaired_verdict i 0 _ f ∙ sym e)
  check_only N x (all_hold s pairs e) =
      rw (le-ltb _ _ s.before.room, no_start_fault s.before.start, le-ltb _ _ s.room, no_step_fault s.step)
      (paired_verdict 0 _ pairs ∙ sym e)
