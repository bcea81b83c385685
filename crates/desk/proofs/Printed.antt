-- What is printed of two equivalent boards, computed from the definition of a line. Assumes nothing.
use mathlib.Core.Path.{◌≡◌, refl}
use lib.Chars.{codes}
use Rattle.meaning.specs.Answer.{equivalent, row_of}
use Rattle.desk.specs.declared.line.Mode.TheVariants.{Refine}
use Rattle.desk.specs.Line.{places_from, decimal, figures, word_of_mode, words, numbers, line_of}

pub whole_output : line_of Refine (equivalent 0 15) ≡ codes "refine EQUIVALENT 0 0 0 15\n"
unfolding places_from decimal figures word_of_mode words numbers line_of row_of
whole_output = refl
