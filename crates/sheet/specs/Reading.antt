-- Reading: what is read from a file is what the paper reads from it. Assumes nothing.
use Rattle.std.specs.Prelude.{ℕ, ◌≡◌, List, Result, Ok}
use Rattle.meaning.specs.Sheet as paper
use Rattle.answer.specs.Meant.{read_by}
use Rattle.answer.specs.declared.Fault.{Fault}
use Rattle.sheet.specs.declared.Sheet.{Sheet}
use Rattle.sheet.specs.Stored.{sheet_of, Whole}

pub record Reads (file : List ℕ) (r : Result Sheet Fault) : Type 0 where
  pub is : read_by sheet_of r ≡ paper.reading_of_sheet file
  pub whole : (s : Sheet) → r ≡ Ok s → Whole s
