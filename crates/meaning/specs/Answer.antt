-- What is answered, and what first: the four calls, write, run, check and refine. Assumes nothing.
use Rattle.std.specs.Prelude.{ℕ, suc, ◌+◌, ◌*◌, ◌^◌, max, true, false, not, List, [], ◌∷◌, ◌++◌, map, length, drop, eqb, ltb, leb, if◌then◌else◌}
use Rattle.meaning.specs.Numbers.{Refusal, UNLIKE, OUT, VECTOR, NO_ROOM, number_of, File, file_A, file_B, file_grouping, no_file, number_of_file, Reason, START, STEP, OUTPUTS, number_of_reason}
use Rattle.meaning.specs.Basic.{bits_of, from_bits, up_from}
use Rattle.meaning.specs.Sheet.{Sheet, Read, refused, value, inputs, reading_of_sheet, reading_of_classes, bytes_of_sheet, bytes_of_classes}
use Rattle.meaning.specs.Tick.{outputs_of}
use Rattle.meaning.specs.Joint.{total, start_fault, step_fault, output_fault, T, rounds}
use Rattle.meaning.specs.Room.{start_count, step_count, capacity}

pub data Answer : Type 0 where
  -- rounds and nodes; reason, index, rounds and nodes
  equivalent : ℕ → ℕ → Answer
  undecided : Reason → ℕ → ℕ → ℕ → Answer
  -- the length written
  wrote : ℕ → Answer
  -- what, in which file, and at which position
  refusal : Refusal → File → ℕ → Answer

-- The paper's numbers of an answer: number, reason, index, rounds, nodes; the length written; or number, file, position.
unfoldable pub row_of : Answer → List ℕ
row_of (equivalent r nodes) = 0 ∷ 0 ∷ 0 ∷ r ∷ nodes ∷ []
row_of (undecided why i r nodes) = 1 ∷ number_of_reason why ∷ i ∷ r ∷ nodes ∷ []
row_of (wrote k) = k ∷ []
row_of (refusal k file at) = number_of k ∷ number_of_file file ∷ at ∷ []

-- What a call answers, and what it writes at the beginning of the result buffer.
pub record Outcome : Type 0 where
  pub answer : Answer
  pub written : List ℕ

-- a call that writes nothing
unfoldable pub silent : Answer → Outcome
silent a = record { answer = a; written = [] }

unfoldable pub refuse : Refusal → File → ℕ → Outcome
refuse k file at = silent (refusal k file at)

-- the result buffer after a call
unfoldable pub result_after : Outcome → List ℕ → List ℕ
result_after o old = o.written ++ drop (length o.written) old

-- A stage of a call: what a file says goes on, a refusal ends the call with the file and the position.
unfoldable pub or_refuse : {A : Type 0} → File → Read A → (A → Outcome) → Outcome
or_refuse file (refused k at) next = refuse k file at
or_refuse file (value v) next = next v

-- ## Write: the sheet, OUT

unfoldable pub write_answer : List ℕ → ℕ → Outcome
write_answer a space =
    or_refuse file_A (reading_of_sheet a) λ A.
    if ltb space (length (bytes_of_sheet A)) then refuse OUT no_file (length (bytes_of_sheet A))
    else record { answer = wrote (length (bytes_of_sheet A)); written = bytes_of_sheet A }

-- ## Run: the sheet, OUT, VECTOR

-- the least tick, from t on, whose vector has a bit beyond i inputs; the next tick where none has
unfoldable pub bad_vector_place : ℕ → ℕ → List ℕ → ℕ
bad_vector_place i t [] = t
bad_vector_place i t (v ∷ vs) = elim (ltb v (2 ^ i)) [ true ↦ bad_vector_place i (suc t) vs | false ↦ t ]

unfoldable pub run_answer : List ℕ → List ℕ → ℕ → Outcome
run_answer a vectors space =
    or_refuse file_A (reading_of_sheet a) λ A.
    let bad = bad_vector_place (inputs A.signals) 0 vectors in
    if ltb space (length vectors) then refuse OUT no_file (length vectors)
    else if ltb bad (length vectors) then refuse VECTOR no_file bad
    else record {
      answer = wrote (length vectors);
      written = map from_bits (outputs_of A (map (bits_of (inputs A.signals)) vectors));
    }

-- ## Check and refine: A, B, UNLIKE, grouping

unfoldable pub with_files : List ℕ → List ℕ → List ℕ → (Sheet → Sheet → List ℕ → Outcome) → Outcome
with_files a b p next =
    or_refuse file_A (reading_of_sheet a) λ A.
    or_refuse file_B (reading_of_sheet b) λ B.
    if not (eqb (inputs A.signals) (inputs B.signals)) then refuse UNLIKE no_file 0
    else if not (eqb (length A.outputs) (length B.outputs)) then refuse UNLIKE no_file 1
    else or_refuse file_grouping (reading_of_classes (total A B) p) λ g.
    next A B g

-- outputs, with the rounds and the nodes
unfoldable pub outputs_verdict : Sheet → Sheet → List ℕ → ℕ → ℕ → Answer
outputs_verdict A B g r nodes =
    if ltb (output_fault A B g) (length A.outputs) then undecided OUTPUTS (output_fault A B g) r nodes
    else equivalent r nodes

-- start room, START, step room, STEP, outputs
unfoldable pub check_verdict : ℕ → Sheet → Sheet → List ℕ → Answer
check_verdict N A B g =
    let nodes = max (start_count A B) (step_count A B g) in
    if ltb N (start_count A B) then refusal NO_ROOM no_file 0
    else if ltb (start_fault A B g) (total A B) then undecided START (start_fault A B g) 0 (start_count A B)
    else if ltb N (step_count A B g) then refusal NO_ROOM no_file 1
    else if ltb (step_fault A B g) (total A B) then undecided STEP (step_fault A B g) 0 nodes
    else outputs_verdict A B g 0 nodes

unfoldable pub check_answer : List ℕ → List ℕ → List ℕ → ℕ → Outcome
check_answer a b p words = with_files a b p (λ A B g. silent (check_verdict (capacity words) A B g))

-- the node counts of the step lists of T_0 to T_r; the place of the first above N; the greatest of them and of m
unfoldable pub step_counts : Sheet → Sheet → List ℕ → List ℕ
step_counts A B p = map (λ i. step_count A B (T A B p i)) (up_from 0 (suc (rounds A B p)))

unfoldable pub first_above : ℕ → ℕ → List ℕ → ℕ
first_above N i [] = i
first_above N i (c ∷ cs) = elim (ltb N c) [ true ↦ i | false ↦ first_above N (suc i) cs ]

unfoldable pub greatest : ℕ → List ℕ → ℕ
greatest m [] = m
greatest m (c ∷ cs) = greatest (max m c) cs

-- OUT, as the grouping that is written takes 2n + 1 bytes; start room, step room of T_0 to T_r, outputs
unfoldable pub refine_verdict : ℕ → ℕ → Sheet → Sheet → List ℕ → Outcome
refine_verdict N space A B p =
    let needed = 2 * total A B + 1 in
    let r = rounds A B p in
    let over = first_above N 0 (step_counts A B p) in
    if ltb space needed then refuse OUT no_file needed
    else if ltb N (start_count A B) then refuse NO_ROOM no_file 0
    else if leb over r then refuse NO_ROOM no_file (suc over)
    else record {
      answer = outputs_verdict A B (T A B p r) r (greatest (start_count A B) (step_counts A B p));
      written = bytes_of_classes (T A B p r);
    }

unfoldable pub refine_answer : List ℕ → List ℕ → List ℕ → ℕ → ℕ → Outcome
refine_answer a b p words space = with_files a b p (refine_verdict (capacity words) space)
