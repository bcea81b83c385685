-- `forget::forget` takes the nodes out of their chains, the newest first. The invariant: the first i nodes remain. Assumes nothing.
use Rattle.std.proofs.Common.{◌≤◌}
use Rattle.diagram.specs.Contract.{Remain}
use Rattle.diagram.proofs.forget.forget.Given as goal

abbrev pub invariant-loop-i : goal.invariant-loop-i
invariant-loop-i l = (l.mark ≤ l.i) × (Remain l.initial.t l.head.used l.t l.i)
