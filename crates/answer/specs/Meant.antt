-- Which answer of `meaning` each case is, and which reading of a file. Assumes nothing.
use Rattle.std.specs.Prelude.{Result, Ok, Err}
use Rattle.meaning.specs.Numbers as paper
use Rattle.meaning.specs.Answer as paper-answer
use Rattle.meaning.specs.Sheet as paper-sheet
use Rattle.answer.specs.declared.Refusal.{Refusal}
use Rattle.answer.specs.declared.Refusal.TheVariants.{Short, Kind, Many, Value, Later, After, NoOutput, Dangling, Unlike, Count, Out, Vector, NoRoom}
use Rattle.answer.specs.declared.File.{File}
use Rattle.answer.specs.declared.File.TheVariants.{A, B, Grouping, Nothing}
use Rattle.answer.specs.declared.Reason.{Reason}
use Rattle.answer.specs.declared.Reason.TheVariants.{Start, Step, Outputs}
use Rattle.answer.specs.declared.Fault.{Fault}
use Rattle.answer.specs.declared.Refused.{Refused}
use Rattle.answer.specs.declared.Done.{Done}
use Rattle.answer.specs.declared.Done.TheVariants.{Equivalent, Undecided, Wrote}

unfoldable pub refusal_of : Refusal → paper.Refusal
refusal_of Short = paper.SHORT
refusal_of Kind = paper.KIND
refusal_of Many = paper.MANY
refusal_of Value = paper.VALUE
refusal_of Later = paper.LATER
refusal_of After = paper.AFTER
refusal_of NoOutput = paper.NO_OUTPUT
refusal_of Dangling = paper.DANGLING
refusal_of Unlike = paper.UNLIKE
refusal_of Count = paper.COUNT
refusal_of Out = paper.OUT
refusal_of Vector = paper.VECTOR
refusal_of NoRoom = paper.NO_ROOM

unfoldable pub file_of : File → paper.File
file_of A = paper.file_A
file_of B = paper.file_B
file_of Grouping = paper.file_grouping
file_of Nothing = paper.no_file

unfoldable pub reason_of : Reason → paper.Reason
reason_of Start = paper.START
reason_of Step = paper.STEP
reason_of Outputs = paper.OUTPUTS

unfoldable pub done_of : Done → paper-answer.Answer
done_of (Equivalent r nodes) = paper-answer.equivalent r nodes
done_of (Undecided why i r nodes) = paper-answer.undecided (reason_of why) i r nodes
done_of (Wrote k) = paper-answer.wrote k

unfoldable pub answer_of : Result Done Refused → paper-answer.Answer
answer_of (Ok done) = done_of done
answer_of (Err r) = paper-answer.refusal (refusal_of r.refusal) (file_of r.file) r.at

-- the reading of a file that gives a value, of which f is what the file says, or has a fault
unfoldable pub read_by : {A B : Type 0} → (A → B) → Result A Fault → paper-sheet.Read B
read_by f (Ok v) = paper-sheet.value (f v)
read_by f (Err e) = paper-sheet.refused (refusal_of e.refusal) e.at

-- the refusal of a call that a faulty file ends
abbrev pub refused_in : Fault → File → Refused
refused_in e file = record { refusal = e.refusal; file = file; at = e.at }
