-- How a sheet is stored: which sheet of the paper's a stored one is, and when its counts are right. Assumes nothing.
use Rattle.std.specs.Prelude.{ℕ, ◌≤◌, ◌<◌, ◌≡◌, [], map, get_or}
use Rattle.arrayvec.specs.ArrayVec.{array_vec_len}
use Rattle.meaning.specs.Numbers.{INPUT, REGISTER, NOT, AND, OR, XOR, max_inputs, max_registers, max_signals, max_outputs}
use Rattle.meaning.specs.Sheet as paper
use Rattle.sheet.specs.declared.kind.Kind.{Kind}
use Rattle.sheet.specs.declared.kind.Kind.TheVariants.{Input, Register, Not, And, Or, Xor}
use Rattle.sheet.specs.declared.Signal.{Signal}
use Rattle.sheet.specs.declared.Output.{Output}
use Rattle.sheet.specs.declared.Sheet.{Sheet}

-- ## What a stored sheet is

-- the number of a kind in a file
abbrev pub number_of_kind : Kind → ℕ
number_of_kind Input = INPUT
number_of_kind Register = REGISTER
number_of_kind Not = NOT
number_of_kind And = AND
number_of_kind Or = OR
number_of_kind Xor = XOR

unfoldable pub signal_of : Signal → paper.Signal
signal_of x = paper.signal_of (number_of_kind x.kind) x.a x.b

unfoldable pub output_of : Output → paper.Output
output_of x = record { pin = x.pin; signal = x.signal }

unfoldable pub sheet_of : Sheet → paper.Sheet
sheet_of s = record {
  signals = map signal_of s.signals.items;
  outputs = map output_of s.outputs.items;
}

-- ## Place by place

-- what is read past the end
abbrev pub no_signal : Signal
no_signal = record { kind = Input; a = 0; b = 0 }

abbrev pub no_output : Output
no_output = record { pin = 0; signal = 0 }

abbrev pub empty_sheet : Sheet
empty_sheet = record {
  signals = record { items = [] };
  outputs = record { items = [] };
  inputs = 0;
  registers = 0;
}

-- the record of signal i, and of output i
abbrev pub nth_signal : Sheet → ℕ → Signal
nth_signal s i = get_or s.signals.items i no_signal

abbrev pub nth_output : Sheet → ℕ → Output
nth_output s i = get_or s.outputs.items i no_output

-- ## Whole

-- The record of signal i says what the paper allows: operands that are lower numbers than its own, an initial value of 0 or 1, and no
-- second byte where the body has one.
pub record Right (i : ℕ) (x : Signal) : Type 0 where
  pub first : NOT ≤ number_of_kind x.kind → x.a < i
  pub second : AND ≤ number_of_kind x.kind → x.b < i
  pub initial : x.kind ≡ Register → x.a ≤ 1
  pub input : x.kind ≡ Input → x.b ≡ 0
  pub inverter : x.kind ≡ Not → x.b ≡ 0

-- what holds of a sheet from its first record on
pub record Kept (s : Sheet) : Type 0 where
  pub few_signals : array_vec_len s.signals ≤ max_signals
  pub few_outputs : array_vec_len s.outputs ≤ max_outputs
  pub inputs : s.inputs ≡ paper.inputs (sheet_of s).signals
  pub few_inputs : s.inputs ≤ max_inputs
  pub registers : s.registers ≡ paper.registers (sheet_of s).signals
  pub few_registers : s.registers ≤ max_registers
  pub right : (i : ℕ) → i < array_vec_len s.signals → Right i (nth_signal s i)

-- and of one that was read: registers and outputs name signals that it has
pub record Whole (s : Sheet) : Type 0 where
  pub kept : Kept s
  pub sources : (i : ℕ) → i < array_vec_len s.signals → (nth_signal s i).kind ≡ Register → (nth_signal s i).b < array_vec_len s.signals
  pub shown : (i : ℕ) → i < array_vec_len s.outputs → (nth_output s i).signal < array_vec_len s.signals
