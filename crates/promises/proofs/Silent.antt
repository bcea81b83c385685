-- A refusal writes nothing; check never writes; and a written result takes its own length only. Assumes nothing.
use Rattle.std.specs.Prelude.{if◌then◌else◌}
use mathlib.Core.Path.{◌≡◌, refl}
use mathlib.Core.Bool.{Bool, true, false, not}
use mathlib.Core.List.{List, []}
use Prim.Native.Nat.{ℕ, ◌+◌, ◌*◌}
use native.Mathlib.Omega.{arith}
use lib.ListN.{length}
use lib.Dec.{eqb, ltb, leb}
use Rattle.meaning.specs.Numbers.{Refusal, File, OUTPUTS}
use Rattle.meaning.specs.Sheet.{Sheet, Read, refused, value, inputs, reading_of_sheet, reading_of_classes, bytes_of_sheet}
use Rattle.meaning.specs.Joint.{total, output_fault, T, rounds}
use Rattle.meaning.specs.Room.{start_count, capacity}
use Rattle.meaning.specs.Answer.{Answer, equivalent, undecided, wrote, refusal, Outcome, silent, refuse, result_after, or_refuse, write_answer, bad_vector_place, run_answer, with_files, outputs_verdict, check_verdict, check_answer, first_above, step_counts, refine_verdict, refine_answer}
use Rattle.laws.proofs.Basic.{case_bool}

-- if the answer is a refusal, nothing is written
unfoldable pub WritesNothingRefused : Outcome → Type 0
WritesNothingRefused o = (k : Refusal) (file : File) (at : ℕ) → o.answer ≡ refusal k file at → o.written ≡ []

silent_fine : (x : Answer) → WritesNothingRefused (silent x)
unfolding WritesNothingRefused silent
silent_fine x k file at e = refl

refuse_fine : (k : Refusal) (file : File) (at : ℕ) → WritesNothingRefused (refuse k file at)
unfolding refuse
refuse_fine k file at = silent_fine (refusal k file at)

wrote_fine : (n : ℕ) (w : List ℕ) → WritesNothingRefused (record { answer = wrote n; written = w })
unfolding WritesNothingRefused
wrote_fine n w k file at e = let z : ◌≡◌ {A = ℕ} 0 1 = cc in absurd (omega arith)

if_fine : (b : Bool) (o o' : Outcome) → WritesNothingRefused o → WritesNothingRefused o' → WritesNothingRefused (if b then o else o')
if_fine true o o' f f' = f
if_fine false o o' f f' = f'

or_fine : {A : Type 0} (file : File) (r : Read A) (next : A → Outcome) → ((v : A) → WritesNothingRefused (next v)) → WritesNothingRefused (or_refuse file r next)
unfolding or_refuse
or_fine file (refused k at) next f = refuse_fine k file at
or_fine file (value v) next f = f v

files_fine : (a b p : List ℕ) (next : Sheet → Sheet → List ℕ → Outcome) → ((A B : Sheet) (g : List ℕ) → WritesNothingRefused (next A B g))
    → WritesNothingRefused (with_files a b p next)
unfolding with_files
files_fine a b p next f =
    or_fine _ (reading_of_sheet a) _ λ A.
    or_fine _ (reading_of_sheet b) _ λ B.
    if_fine (not (eqb (inputs A.signals) (inputs B.signals))) _ _ (refuse_fine _ _ _)
    (if_fine (not (eqb (length A.outputs) (length B.outputs))) _ _ (refuse_fine _ _ _)
    (or_fine _ (reading_of_classes (total A B) p) _ λ g. f A B g))

-- the verdict on the outputs is no refusal
outputs_fine : (A B : Sheet) (g : List ℕ) (r nodes : ℕ) (w : List ℕ) → WritesNothingRefused (record { answer = outputs_verdict A B g r nodes; written = w })
unfolding WritesNothingRefused outputs_verdict
outputs_fine A B g r nodes w k file at = case_bool (ltb (output_fault A B g) (length A.outputs))
    (λ t e. none_undecided (rw t at e))
    (λ t e. none_equivalent (rw t at e))
  where
    none_undecided : undecided OUTPUTS (output_fault A B g) r nodes ≡ refusal k file at → w ≡ []
    none_undecided e = let z : ◌≡◌ {A = ℕ} 0 1 = cc in absurd (omega arith)

    none_equivalent : equivalent r nodes ≡ refusal k file at → w ≡ []
    none_equivalent e = let z : ◌≡◌ {A = ℕ} 0 1 = cc in absurd (omega arith)

-- ## The four calls

pub write_fine : (a : List ℕ) (space : ℕ) → WritesNothingRefused (write_answer a space)
unfolding write_answer
write_fine a space = or_fine _ (reading_of_sheet a) _ λ A. if_fine (ltb space (length (bytes_of_sheet A))) _ _ (refuse_fine _ _ _) (wrote_fine _ _)

pub run_fine : (a vectors : List ℕ) (space : ℕ) → WritesNothingRefused (run_answer a vectors space)
unfolding run_answer
run_fine a vectors space = or_fine _ (reading_of_sheet a) _ λ A.
    if_fine (ltb space (length vectors)) _ _ (refuse_fine _ _ _)
    (if_fine (ltb (bad_vector_place (inputs A.signals) 0 vectors) (length vectors)) _ _ (refuse_fine _ _ _) (wrote_fine _ _))

pub check_fine : (a b p : List ℕ) (words : ℕ) → WritesNothingRefused (check_answer a b p words)
unfolding check_answer
check_fine a b p words = files_fine a b p _ (λ A B g. silent_fine (check_verdict (capacity words) A B g))

pub refine_fine : (a b p : List ℕ) (words space : ℕ) → WritesNothingRefused (refine_answer a b p words space)
unfolding refine_answer refine_verdict
refine_fine a b p words space = files_fine a b p _ (λ A B g.
    let N = capacity words in
    if_fine (ltb space (2 * total A B + 1)) _ _ (refuse_fine _ _ _)
    (if_fine (ltb N (start_count A B)) _ _ (refuse_fine _ _ _)
    (if_fine (leb (first_above N 0 (step_counts A B g)) (rounds A B g)) _ _ (refuse_fine _ _ _)
    (outputs_fine A B (T A B g (rounds A B g)) _ _ _))))

-- nothing written: the result buffer keeps its old contents
pub result_kept : (o : Outcome) (old : List ℕ) → o.written ≡ [] → result_after o old ≡ old
unfolding result_after
result_kept o old e = rw e
