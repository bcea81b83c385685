-- After i turns the first i records stand at the front, and END follows the last. Assumes nothing.
use Prim.Native.Nat.{◌*◌}
use mathlib.Core.Path.{◌≡◌}
use mathlib.Core.List.{◌++◌}
use lib.ListN.{drop}
use Rattle.classes.proofs.Filling.{records}
use Rattle.classes.proofs.write_classes.Given as goal

abbrev pub invariant-loop-i : goal.invariant-loop-i
invariant-loop-i l = l.res ≡ records l.classes l.i ++ drop (2 * l.i) l.initial.res
