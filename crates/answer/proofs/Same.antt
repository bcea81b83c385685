-- Answers that mean the same are equal: each answer of the paper's is meant by one enum case only. Assumes nothing.
use mathlib.Core.Path.{◌≡◌, refl, sym, ap, ◌∙◌}
use Rattle.std.specs.Prelude.{Result, Ok, Err}
use Rattle.meaning.specs.Numbers as paper
use Rattle.meaning.specs.Answer as paper-answer
use Rattle.answer.specs.declared.Refusal.{Refusal}
use Rattle.answer.specs.declared.Refusal.TheVariants.{Short, Kind, Many, Value, Later, After, NoOutput, Dangling, Unlike, Count, Out, Vector, NoRoom}
use Rattle.answer.specs.declared.File.{File}
use Rattle.answer.specs.declared.File.TheVariants.{A, B, Grouping, Nothing}
use Rattle.answer.specs.declared.Reason.{Reason}
use Rattle.answer.specs.declared.Reason.TheVariants.{Start, Step, Outputs}
use Rattle.answer.specs.declared.Refused.{Refused}
use Rattle.answer.specs.declared.Done.{Done}
use Rattle.answer.specs.declared.Done.TheVariants.{Equivalent, Undecided, Wrote}
use Rattle.answer.specs.Meant.{refusal_of, file_of, reason_of, done_of, answer_of}

-- ## The enum case that means an answer

pub means_refusal : paper.Refusal → Refusal
means_refusal paper.SHORT = Short
means_refusal paper.KIND = Kind
means_refusal paper.MANY = Many
means_refusal paper.VALUE = Value
means_refusal paper.LATER = Later
means_refusal paper.AFTER = After
means_refusal paper.NO_OUTPUT = NoOutput
means_refusal paper.DANGLING = Dangling
means_refusal paper.UNLIKE = Unlike
means_refusal paper.COUNT = Count
means_refusal paper.OUT = Out
means_refusal paper.VECTOR = Vector
means_refusal paper.NO_ROOM = NoRoom

means_file : paper.File → File
means_file paper.file_A = A
means_file paper.file_B = B
means_file paper.file_grouping = Grouping
means_file paper.no_file = Nothing

means_reason : paper.Reason → Reason
means_reason paper.START = Start
means_reason paper.STEP = Step
means_reason paper.OUTPUTS = Outputs

means_answer : paper-answer.Answer → Result Done Refused
means_answer (paper-answer.equivalent r nodes) = Ok (Equivalent r nodes)
means_answer (paper-answer.undecided why i r nodes) = Ok (Undecided (means_reason why) i r nodes)
means_answer (paper-answer.wrote k) = Ok (Wrote k)
means_answer (paper-answer.refusal k file at) = Err (record { refusal = means_refusal k; file = means_file file; at = at })

-- ## Each case means one that only it means

pub refusal_meant : (k : Refusal) → means_refusal (refusal_of k) ≡ k
unfolding refusal_of means_refusal
refusal_meant Short = refl
refusal_meant Kind = refl
refusal_meant Many = refl
refusal_meant Value = refl
refusal_meant Later = refl
refusal_meant After = refl
refusal_meant NoOutput = refl
refusal_meant Dangling = refl
refusal_meant Unlike = refl
refusal_meant Count = refl
refusal_meant Out = refl
refusal_meant Vector = refl
refusal_meant NoRoom = refl

file_meant : (f : File) → means_file (file_of f) ≡ f
unfolding file_of means_file
file_meant A = refl
file_meant B = refl
file_meant Grouping = refl
file_meant Nothing = refl

reason_meant : (w : Reason) → means_reason (reason_of w) ≡ w
unfolding reason_of means_reason
reason_meant Start = refl
reason_meant Step = refl
reason_meant Outputs = refl

answer_meant : (a : Result Done Refused) → means_answer (answer_of a) ≡ a
unfolding answer_of done_of means_answer
answer_meant (Ok (Equivalent r nodes)) = refl
answer_meant (Ok (Undecided why i r nodes)) = rw (reason_meant why)
answer_meant (Ok (Wrote k)) = refl
answer_meant (Err r) = rw (refusal_meant r.refusal, file_meant r.file)

pub refusal_same : (j k : Refusal) → refusal_of j ≡ refusal_of k → j ≡ k
refusal_same j k e = sym (refusal_meant j) ∙ ap means_refusal e ∙ refusal_meant k

pub answer_same : (a b : Result Done Refused) → answer_of a ≡ answer_of b → a ≡ b
answer_same a b e = sym (answer_meant a) ∙ ap means_answer e ∙ answer_meant b
