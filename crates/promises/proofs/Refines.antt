-- What refine answers on two sheets and a proposal, exactly. Assumes nothing.
use mathlib.Core.Path.{◌≡◌, sym, ap, ◌∙◌, subst}
use mathlib.Core.Bool.{not}
use mathlib.Core.List.{List}
use Prim.Native.Nat.{ℕ, suc, ◌+◌, ◌*◌, ◌≤◌, ◌<◌}
use native.Mathlib.Omega.{arith}
use lib.ListN.{length}
use lib.Dec.{ltb, leb}
use borrow.Author.Tests.{ltb-true, ltb-false, leb-true, leb-false, lt-ltb, le-ltb, le-leb, lt-leb}
use Rattle.meaning.specs.Basic.{least_from}
use Rattle.meaning.specs.Numbers.{OUT, NO_ROOM, no_file}
use Rattle.meaning.specs.Sheet.{Sheet, bytes_of_classes}
use Rattle.meaning.specs.Joint.{total, T, rounds, output_fault}
use Rattle.meaning.specs.Room.{start_count, step_count}
use Rattle.meaning.specs.Answer.{Answer, Outcome, silent, refuse, outputs_verdict, step_counts, first_above, greatest, refine_verdict}
use Rattle.laws.proofs.Basic.{case_bool}
use Rattle.promises.specs.Correspondence.{PairedOutputs}
use Rattle.promises.specs.Calls.{LeastFailing, Greatest, Rounds, Worked, RefineSays, too_small, no_start-room, no_step-room, unpaired, all_hold}
use Rattle.promises.proofs.Tests.{paired_iff}
use Rattle.promises.proofs.Least.{least_bad, bad_fails, none_fails, fails_bad, all_none}
use Rattle.promises.proofs.Counts.{above_least, fits_iff, greatest_is, greatest_only}
use Rattle.promises.proofs.Equations.{length-T}
use Rattle.promises.proofs.Rounds.{rounds_fixed, rounds-least}
use Rattle.promises.proofs.Checks.{unpaired_verdict, paired_verdict}

abbrev answer_in : Outcome → Answer
answer_in o = o.answer

module _ (A B : Sheet) (p : List ℕ) (pos : 0 < total A B) where
  -- ## The rounds are the least i with T_i = T_(i+1), and no other number is

  pub rounds_is : Rounds A B p (rounds A B p)
  rounds_is = record { settled = rounds_fixed A B p pos; least = rounds-least A B p }

  pub rounds_only : (r : ℕ) → Rounds A B p r → rounds A B p ≡ r
  rounds_only r s = case_bool (ltb (rounds A B p) r)
      (λ t. absurd (s.least (rounds A B p) (ltb-true _ _ t) (rounds_fixed A B p pos)))
      (λ t. case_bool (ltb r (rounds A B p))
      (λ u. absurd (rounds-least A B p r (ltb-true _ _ u) s.settled))
      (λ u. omega (arith, ltb-false (rounds A B p) r t, ltb-false r (rounds A B p) u)))

  -- ## Room

  counts : ℕ → ℕ
  counts i = step_count A B (T A B p i)

  over_at : ℕ → ℕ
  over_at N = first_above N 0 (step_counts A B p)

  over_least : (N : ℕ) → over_at N ≡ least_from 0 (suc (rounds A B p)) (λ i. not (leb (counts i) N))
  unfolding over_at step_counts counts
  over_least N = above_least N counts 0 (suc (rounds A B p))

  over_fails : (N : ℕ) → over_at N ≤ rounds A B p → LeastFailing (suc (rounds A B p)) (λ i. counts i ≤ N) (over_at N)
  unfolding least_bad
  over_fails N l =
      let n = suc (rounds A B p) in
      let at = over_least N in
      rw at (bad_fails n (λ i. leb (counts i) N) (λ i. counts i ≤ N) (λ i _. fits_iff N counts i) (omega arith))

  none_over : (N : ℕ) → rounds A B p < over_at N → (i : ℕ) → i ≤ rounds A B p → counts i ≤ N
  unfolding least_bad
  none_over N l i m =
      let n = suc (rounds A B p) in
      let at = over_least N in
      none_fails n (λ i. leb (counts i) N) (λ i. counts i ≤ N) (λ i _. fits_iff N counts i) (omega arith) i (omega arith)

  most : Greatest (start_count A B) counts (rounds A B p) (greatest (start_count A B) (step_counts A B p))
  unfolding counts step_counts
  most = greatest_is counts (start_count A B) (rounds A B p)

  worked : (N : ℕ) → start_count A B ≤ N → rounds A B p < over_at N
      → Worked A B p N (rounds A B p) (greatest (start_count A B) (step_counts A B p))
  unfolding counts
  worked N room l = record { rounds = rounds_is; start-room = room; step_room = none_over N l; greatest = most }

  -- ## The answer

  pub refine_says : (N space : ℕ) → RefineSays N space A B p (refine_verdict N space A B p).answer
  unfolding refine_verdict refuse silent outputs_verdict output_fault least_bad PairedOutputs counts over_at
  refine_says N space =
      let r = rounds A B p in
      let g = T A B p r in
      case_bool (ltb space (2 * total A B + 1)) (λ t. too_small (ltb-true _ _ t) (rw t))
      λ t. case_bool (ltb N (start_count A B)) (λ u. no_start-room (ltb-false _ _ t) (ltb-true _ _ u) (rw (t, u)))
      λ u. case_bool (leb (over_at N) r)
      (λ w. no_step-room (ltb-false _ _ t) (ltb-false _ _ u) r rounds_is (over_at N) (over_fails N (leb-true _ _ w)) (rw (t, u, w)))
      λ w. let done = worked N (ltb-false _ _ u) (leb-false _ _ w) in
      case_bool (ltb (output_fault A B g) (length A.outputs))
      (λ y. unpaired (ltb-false _ _ t) r _ done (output_fault A B g) (bad_fails (length A.outputs) _ _ (λ i l. paired_iff A B g i) (ltb-true _ _ y)) (rw (t, u, w, y)))
      λ y. all_hold (ltb-false _ _ t) r _ done (none_fails (length A.outputs) _ _ (λ i l. paired_iff A B g i) (ltb-false _ _ y)) (rw (t, u, w, y))

  over_at_lem : (N i : ℕ) → LeastFailing (suc (rounds A B p)) (λ i. counts i ≤ N) i → over_at N ≡ i
  unfolding least_bad
  over_at_lem N i f =
      over_least N ∙ fails_bad (suc (rounds A B p)) (λ i. leb (counts i) N) (λ i. counts i ≤ N) (λ i _. fits_iff N counts i) i f

  over_none : (N : ℕ) → ((i : ℕ) → i ≤ rounds A B p → counts i ≤ N) → over_at N ≡ suc (rounds A B p)
  unfolding least_bad
  over_none N h =
      over_least N
      ∙ all_none (suc (rounds A B p)) (λ i. leb (counts i) N) (λ i. counts i ≤ N) (λ i _. fits_iff N counts i) (λ i l. h i (omega arith))

  -- ## What refine comes to, stage by stage

  pub out_of_space : (N space : ℕ) → space < 2 * total A B + 1 → refine_verdict N space A B p ≡ refuse OUT no_file (2 * total A B + 1)
  unfolding refine_verdict
  out_of_space N space l = rw (lt-ltb _ _ l)

  pub out_at-start : (N space : ℕ) → 2 * total A B + 1 ≤ space → N < start_count A B → refine_verdict N space A B p ≡ refuse NO_ROOM no_file 0
  unfolding refine_verdict
  out_at-start N space s l = rw (le-ltb _ _ s, lt-ltb _ _ l)

  pub out_at-step : (N space i : ℕ) → 2 * total A B + 1 ≤ space → start_count A B ≤ N
      → LeastFailing (suc (rounds A B p)) (λ i. step_count A B (T A B p i) ≤ N) i → refine_verdict N space A B p ≡ refuse NO_ROOM no_file (suc i)
  unfolding refine_verdict counts over_at
  out_at-step N space i s l f =
      let near : i ≤ rounds A B p = omega (arith, f.below) in
      rw (le-ltb _ _ s, le-ltb _ _ l, over_at_lem N i f, le-leb i (rounds A B p) near)

  -- where all lists have room, T_r is written and the verdict is on the outputs
  settles : (N space nodes : ℕ) → 2 * total A B + 1 ≤ space → Worked A B p N (rounds A B p) nodes
      → refine_verdict N space A B p ≡ record {
        answer = outputs_verdict A B (T A B p (rounds A B p)) (rounds A B p) nodes;
        written = bytes_of_classes (T A B p (rounds A B p));
      }
  unfolding refine_verdict counts over_at
  settles N space nodes s w =
      let past = over_none N w.step_room in
      rw (le-ltb _ _ s, le-ltb _ _ w.start-room, past, lt-leb (suc (rounds A B p)) (rounds A B p) (omega arith))
      (ap (λ (m : ℕ). record { answer = outputs_verdict A B (T A B p (rounds A B p)) (rounds A B p) m; written = bytes_of_classes (T A B p (rounds A B p)) })
      (greatest_only counts (start_count A B) (rounds A B p) (greatest (start_count A B) (step_counts A B p)) nodes most w.greatest))

  pub settled-after : (N space r nodes : ℕ) → 2 * total A B + 1 ≤ space → Worked A B p N r nodes
      → refine_verdict N space A B p ≡ record { answer = outputs_verdict A B (T A B p r) r nodes; written = bytes_of_classes (T A B p r) }
  settled-after N space r nodes s w =
      subst (λ (r : ℕ). Worked A B p N r nodes
      → refine_verdict N space A B p ≡ record { answer = outputs_verdict A B (T A B p r) r nodes; written = bytes_of_classes (T A B p r) })
      (rounds_only r w.rounds) (settles N space nodes s) w

  pub refine_only : (N space : ℕ) (x : Answer) → RefineSays N space A B p x → (refine_verdict N space A B p).answer ≡ x
  unfolding refuse silent
  refine_only N space x (too_small l e) = ap answer_in (out_of_space N space l) ∙ sym e
  refine_only N space x (no_start-room s l e) = ap answer_in (out_at-start N space s l) ∙ sym e
  refine_only N space x (no_step-room s l r rs i f e) =
      ap answer_in (out_at-step N space i s l (subst (λ (r : ℕ). LeastFailing (suc r) (λ i. step_count A B (T A B p i) ≤ N) i) (sym (rounds_only r rs)) f))
      ∙ sym e
  refine_only N space x (unpaired s r nodes w i f e) =
      ap answer_in (settled-after N space r nodes s w) ∙ unpaired_verdict A B _ (length-T A B p r) i r nodes f ∙ sym e
  refine_only N space x (all_hold s r nodes w pairs e) =
      ap answer_in (settled-after N space r nodes s w) ∙ paired_verdict A B _ (length-T A B p r) r nodes pairs ∙ sym e
