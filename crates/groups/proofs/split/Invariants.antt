-- The signals passed are numbered. Assumes nothing.
use lib.ListN.{length}
use Rattle.groups.specs.ByIds.{same_by}
use Rattle.groups.proofs.Numbering.{Numbered}
use Rattle.groups.proofs.split.Given as goal

abbrev pub invariant-loop-v : goal.invariant-loop-v
invariant-loop-v l = Numbered (same_by l.g l.ids) (length l.g) l.out l.count l.v
