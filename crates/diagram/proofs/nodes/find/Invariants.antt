-- `nodes::find` walks the chain of a bucket. The invariant: whatever node has the three words lies on the rest of the chain. Assumes nothing.
use Rattle.diagram.proofs.Chain.{Walk}
use Rattle.diagram.proofs.nodes.find.Given as goal

abbrev pub invariant-loop-p : goal.invariant-loop-p
invariant-loop-p l = Walk l.t l.used l.x.height l.x.low l.x.high l.p

abbrev pub decreases-loop-p : goal.decreases-loop-p
decreases-loop-p l = l.p
