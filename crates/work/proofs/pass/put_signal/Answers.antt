-- A signal of a pass, by its kind. Assumes nothing.
use Rattle.work.proofs.Signals.{input_asks, input_says, start_says, now_asks, now_says, next_asks, next_says, inverter_says, and_says, or_says, xor_says}
use Rattle.work.proofs.pass.put_signal.Goals as goal

pub make-requires : goal.make-requires
make-requires c = input_asks c.requires c.in-Input.is

pub returns-in-Input-clause-signal : goal.returns-in-Input-clause-signal
returns-in-Input-clause-signal c = input_says c.requires c.in-Input.is _ _ _ c.make.ensures.gives

pub make-requires-in-Now : goal.make-requires-in-Now
make-requires-in-Now c = now_asks c.requires c.in-Register.is c.in-Now.is

pub operand-requires : goal.operand-requires
operand-requires c = next_asks c.requires c.in-Register.is _ c.in-Next.is

pub returns-in-Start-clause-signal : goal.returns-in-Start-clause-signal
returns-in-Start-clause-signal c = start_says c.requires c.in-Register.is c.in-Start.is _ c.from.ensures

pub returns-in-Now-clause-signal : goal.returns-in-Now-clause-signal
returns-in-Now-clause-signal c = now_says c.requires c.in-Register.is c.in-Now.is _ _ _ c.make-in-Now.ensures.gives

pub returns-in-Next-clause-signal : goal.returns-in-Next-clause-signal
returns-in-Next-clause-signal c = next_says c.requires c.in-Register.is _ c.in-Next.is _ c.operand.ensures

pub returns-in-Not-clause-signal : goal.returns-in-Not-clause-signal
returns-in-Not-clause-signal c =
    inverter_says c.requires c.in-Not.is c.operand-in-Not.ensures _ _ _ c.complement.ensures.gives

pub returns-in-And-clause-signal : goal.returns-in-And-clause-signal
returns-in-And-clause-signal c = and_says c.requires _ _ _ c.in-And.is c.put_gate.ensures.gate

pub returns-in-Or-clause-signal : goal.returns-in-Or-clause-signal
returns-in-Or-clause-signal c = or_says c.requires _ _ _ c.in-Or.is c.put_gate-in-Or.ensures.gate

pub returns-in-Xor-clause-signal : goal.returns-in-Xor-clause-signal
returns-in-Xor-clause-signal c = xor_says c.requires _ _ _ c.in-Xor.is c.put_gate-in-Xor.ensures.gate
