-- The line of an answer, byte by byte. Assumes nothing.
use Rattle.std.specs.Prelude.{ℕ, zero, suc, ◌^◌, ◌≡◌, List, [], ◌∷◌, ◌++◌, take, drop, true, false, ltb, codes, Err}
use Rattle.io.specs.Digits.{last_digits}
use Rattle.meaning.specs.Answer.{Answer, equivalent, undecided, wrote, refusal, row_of}
use Rattle.answer.specs.declared.Refused.{Refused}
use Rattle.answer.specs.Meant.{answer_of}
use Rattle.desk.specs.declared.line.Mode.{Mode}
use Rattle.desk.specs.declared.line.Mode.TheVariants.{Check, Refine}

-- The least number of decimal digits, from k on, that hold n, where at most so many more are tried.
unfoldable pub places_from : ℕ → ℕ → ℕ → ℕ
places_from zero k n = k
places_from (suc more) k n = elim (ltb n (10 ^ k)) [ true ↦ k | false ↦ places_from more (suc k) n ]

-- A number in decimal, with no zero in front; it has at most n digits more than one.
unfoldable pub decimal : ℕ → List ℕ
decimal n = last_digits 10 (places_from n 1 n) n

-- A space before each number.
unfoldable pub figures : List ℕ → List ℕ
figures [] = []
figures (n ∷ ns) = (0x20 ∷ decimal n) ++ figures ns

abbrev pub name_of_mode : Mode → List ℕ
name_of_mode Check = codes "check"
name_of_mode Refine = codes "refine"

-- 'check ' and 'refine '
unfoldable pub word_of_mode : Mode → List ℕ
word_of_mode m = name_of_mode m ++ codes " "

-- What stands before the numbers: mode and verdict, 'wrote' or 'refused'.
unfoldable pub words : Mode → Answer → List ℕ
words m (equivalent r nodes) = word_of_mode m ++ codes "EQUIVALENT"
words m (undecided why i r nodes) = word_of_mode m ++ codes "UNDECIDED"
words m (wrote k) = codes "wrote"
words m (refusal k file at) = codes "refused"

-- The numbers of the line are those of the answer's row; a verdict's own number is told by its word.
unfoldable pub numbers : Answer → List ℕ
numbers (equivalent r nodes) = drop 1 (row_of (equivalent r nodes))
numbers (undecided why i r nodes) = drop 1 (row_of (undecided why i r nodes))
numbers (wrote k) = row_of (wrote k)
numbers (refusal k file at) = row_of (refusal k file at)

-- The line without its end.
unfoldable pub text_of : Mode → Answer → List ℕ
text_of m a = words m a ++ figures (numbers a)

-- The text of a refusal, which no mode stands in.
unfoldable pub refused_text : Refused → List ℕ
refused_text r = words Check (answer_of (Err r)) ++ figures (numbers (answer_of (Err r)))

unfoldable pub line_of : Mode → Answer → List ℕ
line_of m a = words m a ++ (figures (numbers a) ++ codes "\n")

-- A line of r bytes at the start of a text, behind which all stays.
abbrev pub Lined : List ℕ → List ℕ → ℕ → List ℕ → Type 0
Lined line old r new = (take r new ≡ line) × (drop r new ≡ drop r old)
