-- `cache::recall` answers what a slot holds only for its own operation and operands. Assumes nothing.
use Rattle.diagram.specs.Contract.{Recalled}
use Rattle.diagram.proofs.Noting.{recalled}
use Rattle.diagram.proofs.cache.recall.Goals as goal

pub returns-then-word-b : goal.returns-then-word-b
unfolding Recalled
returns-then-word-b c =
    recalled _ _ c.args.slot c.args.op _ _ _ c.requires.0 c.requires.1 (cc) (cc) (cc) c.word-then-word-b.ensures.0
