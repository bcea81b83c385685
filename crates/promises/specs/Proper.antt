-- Proper sheets: within the limits, with operands before gates, and naming only signals that they have. Assumes nothing.
use Rattle.std.specs.Prelude.{List, [], ◌∷◌, ◌++◌, map, ℕ, ◌≤◌, ◌<◌, length, get_or}
use Rattle.meaning.specs.Numbers.{max_inputs, max_registers, max_signals, max_outputs}
use Rattle.meaning.specs.Sheet.{Signal, input, register, inverter, gate, Output, Sheet, inputs, registers}

-- a signal after those before it, in a sheet of n signals
abbrev pub Fits : ℕ → List Signal → Signal → Type 0
Fits n before (input p) = inputs before < max_inputs
Fits n before (register i s) = (registers before < max_registers) × (s < n)
Fits n before (inverter a) = a < length before
Fits n before (gate g a b) = (a < length before) × (b < length before)

abbrev pub SignalsFit : ℕ → List Signal → List Signal → Type 0
SignalsFit n before [] = Unit {0}
SignalsFit n before (s ∷ ss) = (length before < max_signals) × Fits n before s × SignalsFit n (before ++ (s ∷ [])) ss

abbrev pub OutputsFit : ℕ → List Output → Type 0
OutputsFit n [] = Unit {0}
OutputsFit n (o ∷ os) = (o.signal < n) × OutputsFit n os

pub record Proper (s : Sheet) : Type 0 where
  pub signals : SignalsFit (length s.signals) [] s.signals
  pub outputs : OutputsFit (length s.signals) s.outputs
  pub some : 0 < length s.outputs
  pub few : length s.outputs ≤ max_outputs

-- output i names a signal of the sheet
unfoldable pub OutputsName : Sheet → Type 0
OutputsName s = (i : ℕ) → i < length s.outputs → get_or (map (λ o. o.signal) s.outputs) i 0 < length s.signals
