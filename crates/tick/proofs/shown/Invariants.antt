-- After i turns the number has the bits of the first i outputs. Assumes nothing.
use Rattle.tick.proofs.Showing.{Showing}
use Rattle.tick.proofs.shown.Given as goal

abbrev pub invariant-loop-i : goal.invariant-loop-i
invariant-loop-i l = Showing l.fn.s l.fn.v l.number l.i
