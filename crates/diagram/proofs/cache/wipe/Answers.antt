use Rattle.std.proofs.Common.{rules}
use Rattle.diagram.proofs.Forgetting.{wiped_more}
use Rattle.diagram.proofs.cache.wipe.Goals as goal

pub loop-i-preserved : goal.loop-i-preserved
loop-i-preserved c = rw c.put.ensures.0 (wiped_more _ _ _ c.loop-i.invariant (search rules))
