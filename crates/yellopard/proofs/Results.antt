-- What a verdict of refine writes, and that boards with equal outputs run alike. Assumes nothing.
use Rattle.std.specs.Prelude.{Result, Ok, Err}
use mathlib.Core.Path.{◌≡◌, sym, ap, ◌∙◌}
use mathlib.Core.Bool.{true, true≢false}
use mathlib.Core.List.{List, [], ◌∷◌, ◌++◌, map}
use Prim.Native.Nat.{ℕ, ◌+◌, ◌*◌, ◌<◌}
use native.Mathlib.Omega.{arith}
use lib.ListN.{length, drop}
use borrow.Author.Tests.{eq-eqb}
use Rattle.meaning.specs.Numbers as paper
use Rattle.meaning.specs.Basic.{bits_of}
use Rattle.meaning.specs.Sheet.{Sheet, inputs, bytes_of_classes}
use Rattle.meaning.specs.Joint.{total, T, rounds}
use Rattle.meaning.specs.Room.{capacity}
use Rattle.meaning.specs.Answer.{refusal, Outcome, result_after, or_refuse, with_files, run_answer, refine_verdict, refine_answer}
use Rattle.promises.specs.Correspondence.{Sized, SameOutputs}
use Rattle.promises.specs.Calls.{Files, RefineSays, too_small, no_start-room, no_step-room, unpaired, all_hold, Rounds, SameBoards}
use Rattle.promises.proofs.Calls.{some_joint}
use Rattle.promises.proofs.Refines.{rounds_only, refine_says, settled-after}
use Rattle.promises.proofs.Promises.{grouping_bytes}
use Rattle.answer.specs.declared.Done.{Done}
use Rattle.answer.specs.declared.Done.TheVariants.{Equivalent, Undecided, Wrote}
use Rattle.answer.specs.declared.Refused.{Refused}
use Rattle.answer.specs.Meant.{done_of, answer_of}
use Rattle.tick.proofs.Bits.{length_bits}
use Rattle.yellopard.specs.Calls.{is_verdict, Refined}

-- ## What refine writes

not-refusal : {X : Type 0} (r : Result Done Refused) {k : paper.Refusal} {file : paper.File} {at : ℕ} → is_verdict r ≡ true → answer_of r ≡ refusal k file at → X
unfolding is_verdict answer_of done_of
not-refusal (Ok (Equivalent r nodes)) v e = let z : ◌≡◌ {A = ℕ} 0 1 = cc in absurd (omega arith)
not-refusal (Ok (Undecided why i r nodes)) v e = let z : ◌≡◌ {A = ℕ} 0 1 = cc in absurd (omega arith)
not-refusal (Ok (Wrote k)) v e = absurd (true≢false (sym v))
not-refusal (Err f) v e = absurd (true≢false (sym v))

module _ {a b p : List ℕ} {A B : Sheet} {g : List ℕ} (files : Files a b p A B g) where
  files_onward : (next : Sheet → Sheet → List ℕ → Outcome) → with_files a b p next ≡ next A B g
  unfolding with_files or_refuse
  files_onward next =
      rw (
        files.read_a,
        files.read_b,
        eq-eqb (inputs A.signals) (inputs B.signals) files.like_inputs,
        eq-eqb (length A.outputs) (length B.outputs) files.like_outputs,
        files.read_p,
      )

  some : 0 < total A B
  some = some_joint a A B files.read_a

  module _ {table after old new : List ℕ} {r : Result Done Refused} (c : Refined a b p table after old new r) (v : is_verdict r ≡ true) where
    onward : refine_answer a b p (length table) (length old) ≡ refine_verdict (capacity (length table)) (length old) A B g
    unfolding refine_answer
    onward = files_onward (refine_verdict (capacity (length table)) (length old))

    refused-not : {X : Type 0} {k : paper.Refusal} {file : paper.File} {at : ℕ}
        → (refine_verdict (capacity (length table)) (length old) A B g).answer ≡ refusal k file at → X
    refused-not e = not-refusal r v (c.answer ∙ ap (λ (o : Outcome). o.answer) onward ∙ e)

    last : {i : ℕ} → Rounds A B g i → bytes_of_classes (T A B g i) ≡ bytes_of_classes (T A B g (rounds A B g))
    last {i} q = ap (λ (j : ℕ). bytes_of_classes (T A B g j)) (sym (rounds_only A B g some i q))

    written : RefineSays (capacity (length table)) (length old) A B g (refine_verdict (capacity (length table)) (length old) A B g).answer
        → (refine_verdict (capacity (length table)) (length old) A B g).written ≡ bytes_of_classes (T A B g (rounds A B g))
    written (too_small l e) = refused-not e
    written (no_start-room s l e) = refused-not e
    written (no_step-room s l i q j f e) = refused-not e
    written (unpaired s i nodes w j f e) = ap (λ (o : Outcome). o.written) (settled-after A B g some _ _ i nodes s w) ∙ last w.rounds
    written (all_hold s i nodes w o e) = ap (λ (o : Outcome). o.written) (settled-after A B g some _ _ i nodes s w) ∙ last w.rounds

    pub verdict_writes : new ≡ bytes_of_classes (T A B g (rounds A B g)) ++ drop (2 * total A B + 1) old
    unfolding result_after
    verdict_writes =
        let bytes = written (refine_says A B g some (capacity (length table)) (length old)) in
        c.result ∙ rw (onward, bytes, grouping_bytes a b p A B g files)

-- ## Runs

bits_sized : (k : ℕ) (vectors : List ℕ) → Sized k (map (bits_of k) vectors)
bits_sized k [] = tt
bits_sized k (v ∷ vectors) = (length_bits k v, bits_sized k vectors)

pub runs_alike : {a b : List ℕ} → SameBoards a b → (vectors : List ℕ) (space : ℕ) → run_answer a vectors space ≡ run_answer b vectors space
unfolding run_answer or_refuse SameOutputs
runs_alike s vectors space =
    let k = inputs s.A.signals in
    rw (s.read_a, s.read_b, ← s.like_inputs, s.same (map (bits_of k) vectors) (bits_sized k vectors))
