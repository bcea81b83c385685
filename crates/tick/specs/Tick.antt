-- How what a tick computes is stored, and what a run answers, in the terms of `meaning`. Assumes nothing.
use Rattle.std.specs.Prelude.{ℕ, ◌-◌, ◌≡◌, Bool, false, not, List, ◌++◌, map, length, replicate, Result}
use Rattle.meaning.specs.Basic.{bit, bits_of, from_bits, keep}
use Rattle.meaning.specs.Sheet.{Sheet, Signal, input, register, inverter, gate, inputs, signal_is_register}
use Rattle.meaning.specs.Tick.{gate_value, values, taken, shown, outputs_of}
use Rattle.meaning.specs.Answer.{run_answer, result_after}
use Rattle.answer.specs.declared.Done.{Done}
use Rattle.answer.specs.declared.Refused.{Refused}
use Rattle.answer.specs.Meant.{answer_of}
use Rattle.sheet.specs.declared.kind.Kind.TheVariants.{Register}
use Rattle.sheet.specs.declared.Signal as stored
use Rattle.sheet.specs.Stored.{signal_of}
use Rattle.tick.specs.declared.State.{State}
use Rattle.tick.specs.declared.Tick.{Tick}

-- ## Values in places

-- so many places, of which the first hold the values of a list, and the others false
unfoldable pub padded : ℕ → List Bool → List Bool
padded places vs = vs ++ replicate (places - length vs) false

-- the registers that hold given values
unfoldable pub state_of : List Bool → State
state_of rs = record { held = record { items = rs } }

-- what the registers among some signals hold, in order, where each holds what f says of it
abbrev pub held_by : (Signal → Bool) → List Signal → List Bool
held_by f ss = map f (keep signal_is_register ss)

-- what a call gives for a register's record is what f says of the register
abbrev pub Gives : (stored.Signal → Bool → Type 0) → (Signal → Bool) → Type 0
Gives post f = (x : stored.Signal) (b : Bool) → post x b → x.kind ≡ Register → b ≡ f (signal_of x)

-- ## One tick

-- the value of a signal, from those of its register, of its input and of the signals before it
unfoldable pub value_of : Signal → Bool → Bool → List Bool → Bool
value_of (input p) held given vs = given
value_of (register i s) held given vs = held
value_of (inverter a) held given vs = not (bit vs a)
value_of (gate g a b) held given vs = gate_value g (bit vs a) (bit vs b)

-- what a tick of a sheet gives, with rs in the registers and xs at the inputs
unfoldable pub tick_of : Sheet → List Bool → List Bool → Tick
tick_of s rs xs =
    let vs = values s.signals rs xs in
    record { shown = from_bits (shown s.outputs vs); next = state_of (taken s.signals vs) }

-- ## A run

-- the number of each tick, under a vector for each
unfoldable pub numbers_of : Sheet → List ℕ → List ℕ
numbers_of s vectors = map from_bits (outputs_of s (map (bits_of (inputs s.signals)) vectors))

-- what is answered, and the result buffer that is left of the old one
pub record Ran (file vectors old : List ℕ) (r : Result Done Refused) (new : List ℕ) : Type 0 where
  pub answer : answer_of r ≡ (run_answer file vectors (length old)).answer
  pub result : new ≡ result_after (run_answer file vectors (length old)) old
