-- What a grouping's file says, in the terms of `meaning`. Assumes nothing.
use Rattle.std.specs.Prelude.{ℕ, zero, suc, ◌+◌, ◌*◌, ◌<◌, ◌≡◌, List, [], ◌∷◌, ◌++◌, length, get_or, Result, Ok}
use Rattle.meaning.specs.Sheet.{Read, refused, value, reading_of_classes}
use Rattle.answer.specs.declared.Fault.{Fault}
use Rattle.answer.specs.Meant.{read_by}

-- the classes after a reading: those of the file, or the old ones where it is refused
unfoldable pub classes_after : Read (List ℕ) → List ℕ → List ℕ
classes_after (value cs) old = cs
classes_after (refused k at) old = old

-- the first class numbers of a file, i of them, each the second byte of its record
unfoldable pub classes_in : List ℕ → ℕ → List ℕ
classes_in file zero = []
classes_in file (suc i) = classes_in file i ++ (get_or file (2 * i + 1) 0 ∷ [])

-- a file judged as a grouping of n signals
pub record Judged (n : ℕ) (file : List ℕ) (r : Result Unit Fault) : Type 0 where
  pub reads : read_by (λ _. classes_in file n) r ≡ reading_of_classes n file
  pub room : r ≡ Ok tt → 2 * n < length file

-- Read: what the reading says, and the classes that it leaves of the old ones.
pub record Grouped (file old : List ℕ) (r : Result Unit Fault) (new : List ℕ) : Type 0 where
  pub reading : read_by (λ _. new) r ≡ reading_of_classes (length old) file
  pub classes : new ≡ classes_after (reading_of_classes (length old) file) old
