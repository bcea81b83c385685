-- A gate of a pass. Assumes nothing.
use Rattle.work.proofs.Signals.{gate_says}
use Rattle.work.proofs.pass.put_gate.Goals as goal

pub returns-clause-gate : goal.returns-clause-gate
returns-clause-gate c = gate_says c.requires c.operand-a.ensures c.operand-b.ensures _ _ _ _ c.combine.ensures.gives
