-- `cache::renew`: the next stamp, or the first one in an emptied cache. Assumes nothing.
use Rattle.std.proofs.Common.{arith}
use Rattle.diagram.proofs.Forgetting.{renewed_next, renewed_first}
use Rattle.diagram.proofs.cache.renew.Goals as goal

pub returns-then-next-lt-STAMPS : goal.returns-then-next-lt-STAMPS
returns-then-next-lt-STAMPS c =
    rw c.put.ensures.0 (renewed_next _ _ c.requires.0 c.requires.1 (omega (arith, c.word-next.ensures.0)) c.if-next-lt-STAMPS.true)

pub returns-else-next-lt-STAMPS : goal.returns-else-next-lt-STAMPS
returns-else-next-lt-STAMPS c = rw c.put-else-next-lt-STAMPS.ensures.0 (renewed_first _ _ c.requires.0 c.wipe.ensures)
