-- After i turns the first i classes are the file's. Assumes nothing.
use mathlib.Core.Path.{◌≡◌}
use mathlib.Core.List.{◌++◌}
use lib.ListN.{drop}
use Rattle.classes.specs.Grouping.{classes_in}
use Rattle.classes.proofs.store.Given as goal

abbrev pub invariant-loop-i : goal.invariant-loop-i
invariant-loop-i l = l.classes ≡ classes_in l.file l.i ++ drop l.i l.initial.classes
