-- Writing: the bytes of a record, what is put into a buffer, and what a call answers and leaves there. Assumes nothing.
use Rattle.std.specs.Prelude.{ℕ, ◌+◌, ◌≡◌, List, [], ◌∷◌, Result, length, take}
use Rattle.std.proofs.lemmas.List.Edits.{sets}
use Rattle.meaning.specs.Sheet as paper
use Rattle.meaning.specs.Answer.{Outcome, result_after}
use Rattle.answer.specs.Meant.{answer_of}
use Rattle.answer.specs.declared.Done.{Done}
use Rattle.answer.specs.declared.Refused.{Refused}
use Rattle.sheet.specs.declared.Signal.{Signal}
use Rattle.sheet.specs.Stored.{number_of_kind}

-- a signal's record, with a body of one byte or two
unfoldable pub bytes_of_record : Signal → List ℕ
bytes_of_record x = take (1 + paper.body_of (number_of_kind x.kind)) (number_of_kind x.kind ∷ x.a ∷ x.b ∷ [])

-- a buffer after some bytes were put into it at an offset, and the offset after them
pub record Put (old : List ℕ) (at : ℕ) (bytes : List ℕ) (new : List ℕ) (next : ℕ) : Type 0 where
  pub result : new ≡ sets old at bytes
  pub after : next ≡ at + length bytes

-- a call has this outcome: it is what is answered, and what is left in the result buffer
pub record Called (o : Outcome) (old new : List ℕ) (r : Result Done Refused) : Type 0 where
  pub answer : answer_of r ≡ o.answer
  pub result : new ≡ result_after o old
