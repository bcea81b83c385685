-- The variable levels of a pair. Assumes nothing.
use mathlib.Core.Path.{sym}
use Rattle.work.proofs.Joining.{levels_are}
use Rattle.work.proofs.Pair.levels.Goals as goal

pub returns : goal.returns
returns c = sym (levels_are _ c.requires)
