-- What the yard may rely on: demands 1 to 3 of the paper restated, each with a line of proof from the file that did the work.
-- The words are those of `meaning` and of this crate's specs/: Reading, Correspondence, Calls. Assumes nothing.
use mathlib.Core.Path.{◌≡◌, sym, ap, ◌∙◌}
use mathlib.Core.Bool.{true}
use mathlib.Core.List.{List}
use mathlib.Core.Logic.{◌↔◌}
use Prim.Native.Nat.{ℕ, suc, ◌+◌, ◌*◌, ◌≤◌, ◌<◌}
use lib.ListN.{length, take, drop, replicate}
use Rattle.meaning.specs.Numbers.{Refusal, File, node_words}
use Rattle.meaning.specs.Sheet.{Sheet, Read, refused, value, reading_of_sheet, reading_of_classes, bytes_of_sheet, bytes_of_classes}
use Rattle.meaning.specs.Joint.{class, grouping, total, start_same, step_same, start_fault, step_fault, paired, T, rounds}
use Rattle.meaning.specs.Room.{capacity, cleared}
use Rattle.meaning.specs.Answer.{Answer, refusal, row_of, Outcome, result_after, write_answer, run_answer, check_answer, refine_answer}
use Rattle.laws.proofs.Basic.{exactly, exactly_one}
use Rattle.promises.specs.Reading.{max_bytes, Refused, Accepted, ClassesRefused, ClassesAccepted}
use Rattle.promises.specs.Correspondence.{StartEqual, StepEqual, Start, Step, PairedAt, CoarsestInside}
use Rattle.promises.specs.Calls.{WriteSays, RunSays, Files, FilesSay, CheckSays, RefineSays, Rounds, SameBoards, ProposalAccepted, one_class, AcceptsInRoom}
use Rattle.promises.proofs.RoundTrip.{round_trip}
use Rattle.promises.proofs.Written.{sheet_length, file_length, length-bytes_of_classes, classes-written}
use Rattle.promises.proofs.SheetReading.{refused_exactly, accepted_exactly}
use Rattle.promises.proofs.ClassesReading.{classes-refused_exactly, classes_accepted_exactly}
use Rattle.promises.proofs.Silent.{WritesNothingRefused, write_fine, run_fine, check_fine, refine_fine, result_kept}
use Rattle.promises.proofs.Table.{cleared_front, cleared_rest}
use Rattle.promises.proofs.Rows.{row_only}
use Rattle.promises.proofs.Tests.{start_iff, step_iff, paired_iff}
use Rattle.promises.proofs.Groups.{same_class}
use Rattle.promises.proofs.Equations.{length-T, equation_2, equation_3, T_own}
use Rattle.promises.proofs.Rounds.{rounds-lt}
use Rattle.promises.proofs.Coarsest.{T-coarsest}
use Rattle.promises.proofs.Checks.{start_exactly, step_exactly}
use Rattle.promises.proofs.Refines.{rounds_is, rounds_only}
use Rattle.promises.proofs.Runs.{write_says, write_only, run_says, run_only}
use Rattle.promises.proofs.Calls.{some_joint, check_exactly, refine_exactly}
use Rattle.promises.proofs.OwnSearch.{accepted_sound, own_search}

same_sheet : (s t : Sheet) → ◌≡◌ {A = Read Sheet} (value s) (value t) → s ≡ t
same_sheet s t e = cc

-- ## Demand 1: each bad input gets exactly the refusal listed for it, and a refusal writes nothing

-- a sheet file is refused, with this number at this position, exactly under the condition listed for it; else it is accepted
pub sheet_refused : (file : List ℕ) (k : Refusal) (at : ℕ) → (reading_of_sheet file ≡ refused k at) ↔ Refused file k at
sheet_refused = refused_exactly

pub sheet_accepted : (file : List ℕ) (s : Sheet) → (reading_of_sheet file ≡ value s) ↔ Accepted file s
sheet_accepted = accepted_exactly

-- so is a grouping of n signals
pub grouping-refused : (n : ℕ) (file : List ℕ) (k : Refusal) (at : ℕ) → (reading_of_classes n file ≡ refused k at) ↔ ClassesRefused n file k at
grouping-refused = classes-refused_exactly

pub grouping_accepted : (n : ℕ) (file g : List ℕ) → (reading_of_classes n file ≡ value g) ↔ ClassesAccepted n file g
grouping_accepted = classes_accepted_exactly

-- a refusal writes nothing, in each call
pub write-refused : (a : List ℕ) (space : ℕ) → WritesNothingRefused (write_answer a space)
write-refused = write_fine

pub run-refused : (a vectors : List ℕ) (space : ℕ) → WritesNothingRefused (run_answer a vectors space)
run-refused = run_fine

pub check-refused : (a b p : List ℕ) (words : ℕ) → WritesNothingRefused (check_answer a b p words)
check-refused = check_fine

pub refine-refused : (a b p : List ℕ) (words space : ℕ) → WritesNothingRefused (refine_answer a b p words space)
refine-refused = refine_fine

-- so that the result buffer keeps its old contents
pub refused_result : (o : Outcome) (old : List ℕ) → WritesNothingRefused o → (k : Refusal) (file : File) (at : ℕ)
    → o.answer ≡ refusal k file at → result_after o old ≡ old
unfolding WritesNothingRefused
refused_result o old fine k file at e = result_kept o old (fine k file at e)

-- and the lent table comes back zeroed: its first 10N words are zero, the rest is unchanged
pub table_zeroed : (table : List ℕ) → take (node_words * capacity (length table)) (cleared table) ≡ replicate (node_words * capacity (length table)) 0
table_zeroed = cleared_front

pub table_rest : (table : List ℕ) → drop (node_words * capacity (length table)) (cleared table) ≡ drop (node_words * capacity (length table)) table
table_rest = cleared_rest

-- ## Demand 2: each answer is the one that the paper's rules give, and no other

pub write_exactly : (a : List ℕ) (space : ℕ) (x : Answer) → ((write_answer a space).answer ≡ x) ↔ WriteSays a space x
write_exactly a space = exactly (WriteSays a space) _ (write_only a space) (_, write_says a space)

pub run_exactly : (a vectors : List ℕ) (space : ℕ) (x : Answer) → ((run_answer a vectors space).answer ≡ x) ↔ RunSays a vectors space x
run_exactly a vectors space = exactly (RunSays a vectors space) _ (run_only a vectors space) (_, run_says a vectors space)

pub checks_exactly : (a b p : List ℕ) (words : ℕ) (x : Answer)
    → ((check_answer a b p words).answer ≡ x) ↔ FilesSay a b p (CheckSays (capacity words)) x
checks_exactly = check_exactly

pub refines_exactly : (a b p : List ℕ) (words space : ℕ) (x : Answer)
    → ((refine_answer a b p words space).answer ≡ x) ↔ FilesSay a b p (RefineSays (capacity words) space) x
refines_exactly = refine_exactly

-- the rules speak of van Eijk's Definition 2; the computed tests are the same: of two signals, of a grouping, of an output pair
pub start_test : (A B : Sheet) (g : List ℕ) (u v : ℕ) → (start_same A B g u v ≡ true) ↔ ((class g u ≡ class g v) × StartEqual A B u v)
start_test = start_iff

pub step_test : (A B : Sheet) (g : List ℕ) → length g ≡ total A B → (u v : ℕ)
    → (step_same A B g u v ≡ true) ↔ ((class g u ≡ class g v) × StepEqual A B g u v)
step_test = step_iff

pub start_holds : (A B : Sheet) (g : List ℕ) → length g ≡ total A B → (start_fault A B g ≡ total A B) ↔ Start A B g
start_holds = start_exactly

pub step_holds : (A B : Sheet) (g : List ℕ) → length g ≡ total A B → (step_fault A B g ≡ total A B) ↔ Step A B g
step_holds = step_exactly

pub paired_test : (A B : Sheet) (g : List ℕ) (i : ℕ) → (paired A B g i ≡ true) ↔ PairedAt A B g i
paired_test = paired_iff

-- Equations 2 and 3
pub T-zero : (A B : Sheet) (p : List ℕ) (u v : ℕ) → u < total A B → v < total A B
    → (class (T A B p 0) u ≡ class (T A B p 0) v) ↔ ((class p u ≡ class p v) × StartEqual A B u v)
T-zero = equation_2

pub T-next : (A B : Sheet) (p : List ℕ) (i u v : ℕ) → u < total A B → v < total A B
    → (class (T A B p (suc i)) u ≡ class (T A B p (suc i)) v) ↔ ((class (T A B p i) u ≡ class (T A B p i) v) × StepEqual A B (T A B p i) u v)
T-next = equation_3

-- the two sheets and the grouping of a call that is not refused for its files
module _ (a b p : List ℕ) (A B : Sheet) (g : List ℕ) (files : Files a b p A B g) where
  some : 0 < total A B
  some = some_joint a A B files.read_a

  -- the rounds are the least i with T_i = T_(i+1), which is one number, below n
  pub the_rounds : Rounds A B g (rounds A B g)
  the_rounds = rounds_is A B g some

  pub only_rounds : (r : ℕ) → Rounds A B g r → rounds A B g ≡ r
  only_rounds = rounds_only A B g some

  pub few_rounds : rounds A B g < total A B
  few_rounds = rounds-lt A B g some

  -- T_r is inside the proposal, satisfies Start and Step, and is the coarsest such grouping
  pub coarsest-grouping : CoarsestInside A B g (T A B g (rounds A B g))
  coarsest-grouping = T-coarsest A B g some

  -- what refine writes: 2n + 1 bytes, classes numbered from 0 in order of first member, and read back as T_r
  pub grouping_bytes : length (bytes_of_classes (T A B g (rounds A B g))) ≡ 2 * total A B + 1
  grouping_bytes = rw length-bytes_of_classes (rw (length-T A B g (rounds A B g)))

  pub grouping-numbers : T A B g (rounds A B g) ≡ grouping (total A B) (same_class (T A B g (rounds A B g)))
  grouping-numbers = T_own A B g (rounds A B g)

  pub grouping_read_back : reading_of_classes (total A B) (bytes_of_classes (T A B g (rounds A B g))) ≡ value (T A B g (rounds A B g))
  grouping_read_back = classes-written (total A B) _ (length-T A B g (rounds A B g))

-- a sheet written and read back is the same sheet, and is written again as the same bytes, at most 409
pub written_read_back : (file : List ℕ) (s : Sheet) → reading_of_sheet file ≡ value s → reading_of_sheet (bytes_of_sheet s) ≡ value s
written_read_back = round_trip

pub written_again : (file : List ℕ) (s : Sheet) → reading_of_sheet file ≡ value s → (t : Sheet) → reading_of_sheet (bytes_of_sheet s) ≡ value t
    → bytes_of_sheet t ≡ bytes_of_sheet s
written_again file s e t again = ap bytes_of_sheet (same_sheet t s (sym again ∙ round_trip file s e))

pub written-length : (file : List ℕ) (s : Sheet) → reading_of_sheet file ≡ value s → length (bytes_of_sheet s) ≤ max_bytes
written-length = sheet_length

-- and no accepted file is longer
pub longest_sheet : (file : List ℕ) (s : Sheet) → reading_of_sheet file ≡ value s → length file ≤ max_bytes
longest_sheet = file_length

-- uniqueness: two answers that the rules of a call allow are one answer, and an answer is told by its row of numbers
pub write-one : (a : List ℕ) (space : ℕ) (x y : Answer) → WriteSays a space x → WriteSays a space y → x ≡ y
write-one a space = exactly_one _ _ (write_exactly a space)

pub run-one : (a vectors : List ℕ) (space : ℕ) (x y : Answer) → RunSays a vectors space x → RunSays a vectors space y → x ≡ y
run-one a vectors space = exactly_one _ _ (run_exactly a vectors space)

pub check-one : (a b p : List ℕ) (words : ℕ) (x y : Answer)
    → FilesSay a b p (CheckSays (capacity words)) x → FilesSay a b p (CheckSays (capacity words)) y → x ≡ y
check-one a b p words = exactly_one _ _ (check_exactly a b p words)

pub refine-one : (a b p : List ℕ) (words space : ℕ) (x y : Answer)
    → FilesSay a b p (RefineSays (capacity words) space) x → FilesSay a b p (RefineSays (capacity words) space) y → x ≡ y
refine-one a b p words space = exactly_one _ _ (refine_exactly a b p words space)

pub rows_differ : (x y : Answer) → row_of x ≡ row_of y → x ≡ y
rows_differ = row_only

-- ## Demand 3: what EQUIVALENT means

-- whoever proposed the grouping, and in either mode: equal outputs at every tick for every input sequence
pub equivalent_means : (a b : List ℕ) → ProposalAccepted a b → SameBoards a b
equivalent_means = accepted_sound

-- if any proposal is accepted, refining from one class says EQUIVALENT too, or refuses with OUT or NO ROOM
pub own_search_finds : (a b : List ℕ) → ProposalAccepted a b → (A B : Sheet) → reading_of_sheet a ≡ value A → reading_of_sheet b ≡ value B
    → (words space : ℕ) → AcceptsInRoom (refine_answer a b (one_class (total A B)) words space).answer
own_search_finds = own_search
