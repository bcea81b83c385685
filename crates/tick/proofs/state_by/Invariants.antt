-- After as many turns the registers among the first signals hold what the calls gave. Assumes nothing.
use Rattle.tick.specs.Tick.{Gives}
use Rattle.tick.proofs.Holding.{Holding}
use Rattle.tick.proofs.state_by.Given as goal

abbrev pub invariant-loop-x : goal.invariant-loop-x
invariant-loop-x g l = Holding (Gives (goal.F-post g l.fn.value)) l.fn.s l.held.items l.x-index
