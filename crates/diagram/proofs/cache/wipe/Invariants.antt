-- `cache::wipe` empties the slots. The invariant: the first i slots are empty, and all else is as it was. Assumes nothing.
use Rattle.diagram.specs.Contract.{Wiped}
use Rattle.diagram.proofs.cache.wipe.Given as goal

abbrev pub invariant-loop-i : goal.invariant-loop-i
invariant-loop-i l = Wiped l.initial.t l.t l.i
