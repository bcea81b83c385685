-- After t turns the numbers of the first t ticks are stored, and the registers hold what they held after them. Assumes nothing.
use Rattle.sheet.specs.Stored.{sheet_of}
use Rattle.tick.proofs.Running.{Running}
use Rattle.tick.proofs.ticks.Given as goal

abbrev pub invariant-loop-t : goal.invariant-loop-t
invariant-loop-t l = Running (sheet_of l.fn.s) l.fn.vectors l.initial.res l.state l.res l.t
