-- After i turns the values of the first i signals are stored. Assumes nothing.
use Rattle.meaning.specs.Numbers.{max_inputs}
use Rattle.meaning.specs.Basic.{bits_of}
use Rattle.tick.proofs.Valuing.{Valuing}
use Rattle.tick.proofs.values.Given as goal

abbrev pub invariant-loop-i : goal.invariant-loop-i
invariant-loop-i l = Valuing l.fn.s l.state.held.items (bits_of max_inputs l.fn.vector) l.v l.registers l.inputs l.i
