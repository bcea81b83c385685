-- What the calls on files say. Assumes nothing.
use Rattle.std.specs.Prelude.{◌≡◌, Bool, true, false, List, ◌++◌, ℕ, ◌<◌, length, take, drop, Result, Ok, Err}
use Rattle.arrayvec.specs.ArrayVec.{array_vec_len}
use Rattle.meaning.specs.Sheet as paper
use Rattle.meaning.specs.Room.{cleared}
use Rattle.meaning.specs.Answer as paper-answer
use Rattle.meaning.specs.Answer.{Outcome, silent, row_of, with_files, result_after, check_answer, refine_answer}
use Rattle.answer.specs.declared.Done.{Done}
use Rattle.answer.specs.declared.Done.TheVariants.{Equivalent, Undecided, Wrote}
use Rattle.answer.specs.declared.File.TheVariants.{Nothing}
use Rattle.answer.specs.declared.Refusal.TheVariants.{Unlike}
use Rattle.answer.specs.declared.Refused.{Refused}
use Rattle.answer.specs.Meant.{answer_of}
use Rattle.sheet.specs.declared.Sheet.{Sheet}
use Rattle.sheet.specs.Stored.{Whole}
use Rattle.work.specs.Lists.{left, right, joint}
use Rattle.correspond.specs.Verdicts.{Grouped, Lent}
use Rattle.yellopard.specs.declared.files.Files.{Files}

-- two sheets that were read, with as many inputs
pub record PairAsks (a b : Sheet) : Type 0 where
  pub whole_a : Whole a
  pub whole_b : Whole b
  pub shown_a : 0 < array_vec_len a.outputs
  pub shown_b : 0 < array_vec_len b.outputs
  pub inputs : a.inputs ≡ b.inputs

-- the files say two sheets that are alike and a grouping of their joint signals
pub record Prepared (f : Files) : Type 0 where
  pub grouped : Grouped f.pair (take f.signals f.classes)
  pub count : f.signals ≡ joint f.pair

-- the files go on with what they say, whatever comes next
pub record FilesAre (a b p : List ℕ) (f : Files) : Type 0 where
  pub prepared : Prepared f
  pub onward : (next : paper.Sheet → paper.Sheet → List ℕ → Outcome) → with_files a b p next ≡ next (left f.pair) (right f.pair) (take f.signals f.classes)

-- they end the call, whatever comes next
pub record FilesEnd (a b p : List ℕ) (e : Refused) : Type 0 where
  pub always : (next : paper.Sheet → paper.Sheet → List ℕ → Outcome) → with_files a b p next ≡ silent (answer_of (Err e))

abbrev pub FilesSay : List ℕ → List ℕ → List ℕ → Result Files Refused → Type 0
FilesSay a b p (Ok f) = FilesAre a b p f
FilesSay a b p (Err e) = FilesEnd a b p e

-- the refusal of a call on sheets with other inputs, 0, or other outputs, 1
abbrev pub unlike_at : ℕ → Refused
unlike_at at = record { refusal = Unlike; file = Nothing; at = at }

-- ## Check and refine

-- an answer is a verdict, so that its grouping is written
unfoldable pub is_verdict : Result Done Refused → Bool
is_verdict (Ok (Equivalent r nodes)) = true
is_verdict (Ok (Undecided why i r nodes)) = true
is_verdict (Ok (Wrote k)) = false
is_verdict (Err e) = false

-- what check says of three files, with the table lent
pub record CheckedFiles (a b p w u : List ℕ) (r : Result Done Refused) : Type 0 where
  pub answer : answer_of r ≡ (check_answer a b p (length w)).answer
  pub lent : Lent w u

-- what refine says of them, and the result that it leaves
pub record RefinedFiles (a b p w u old new : List ℕ) (r : Result Done Refused) : Type 0 where
  pub answer : answer_of r ≡ (refine_answer a b p (length w) (length old)).answer
  pub result : new ≡ result_after (refine_answer a b p (length w) (length old)) old
  pub lent : Lent w u

-- The call check on the bytes of three files: what is answered is what the paper says, and the lent table comes back zeroed.
pub record Checked (a b p table after : List ℕ) (r : Result Done Refused) : Type 0 where
  pub answer : answer_of r ≡ (check_answer a b p (length table)).answer
  pub zeroed : after ≡ cleared table

-- The call refine: the same, and a result that was old is new afterwards, as the paper says.
pub record Refined (a b p table after old new : List ℕ) (r : Result Done Refused) : Type 0 where
  pub answer : answer_of r ≡ (refine_answer a b p (length table) (length old)).answer
  pub zeroed : after ≡ cleared table
  pub result : new ≡ result_after (refine_answer a b p (length table) (length old)) old

-- ## The numbers of an answer, in a lent row

-- a row after numbers were put at its front, as many as it has places for
unfoldable pub row_after : List ℕ → List ℕ → List ℕ
row_after numbers row = take (length row) numbers ++ drop (length numbers) row

-- how many numbers an answer has, and the row after it
pub record Told (z : paper-answer.Answer) (old new : List ℕ) (n : ℕ) : Type 0 where
  pub count : n ≡ length (row_of z)
  pub row : new ≡ row_after (row_of z) old
