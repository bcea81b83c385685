-- Laws of stored sheets: their lists place by place, and that two that are one sheet of the paper's are equal. Assumes nothing.
use mathlib.Core.Path.{◌≡◌, refl, sym, ap, ◌∙◌}
use mathlib.Core.List.{List}
use Prim.Native.Nat.{ℕ, ◌<◌}
use native.Mathlib.Omega.{arith}
use lib.ListN.{length, get_or, length-map}
use lib.Seq.{ext_get_or}
use Rattle.std.proofs.lemmas.List.{get_or-map}
use Rattle.arrayvec.specs.ArrayVec.{array_vec_len}
use Rattle.meaning.specs.Basic.{keep}
use Rattle.meaning.specs.Sheet as paper
use Rattle.sheet.specs.declared.Signal.{Signal}
use Rattle.sheet.specs.declared.Output.{Output}
use Rattle.sheet.specs.declared.Sheet.{Sheet}
use Rattle.sheet.specs.Stored.{signal_of, output_of, sheet_of, no_signal, no_output, empty_sheet, nth_signal, nth_output, Kept, Whole}
use Rattle.sheet.proofs.Right.{right_same}

-- ## Place by place

module _ (s : Sheet) where
  pub length_signals : length (sheet_of s).signals ≡ array_vec_len s.signals
  unfolding sheet_of
  length_signals = length-map s.signals.items signal_of

  pub length_outputs : length (sheet_of s).outputs ≡ array_vec_len s.outputs
  unfolding sheet_of
  length_outputs = length-map s.outputs.items output_of

  pub signal_at : (i : ℕ) (d : paper.Signal) → i < array_vec_len s.signals → get_or (sheet_of s).signals i d ≡ signal_of (nth_signal s i)
  unfolding sheet_of
  signal_at i d h = get_or-map signal_of s.signals.items i no_signal d h

  pub output_at : (i : ℕ) (d : paper.Output) → i < array_vec_len s.outputs → get_or (sheet_of s).outputs i d ≡ output_of (nth_output s i)
  unfolding sheet_of
  output_at i d h = get_or-map output_of s.outputs.items i no_output d h

-- ## The empty sheet

pub empty_kept : Kept empty_sheet
unfolding sheet_of paper.inputs paper.registers keep
empty_kept = record {
  few_signals = omega arith;
  few_outputs = omega arith;
  inputs = refl;
  few_inputs = omega arith;
  registers = refl;
  few_registers = omega arith;
  right = λ i h. absurd (omega arith);
}

-- ## Two that are one sheet of the paper's are equal

stored_output : paper.Output → Output
stored_output o = record { pin = o.pin; signal = o.signal }

output_same : (x y : Output) → output_of x ≡ output_of y → x ≡ y
unfolding output_of stored_output
output_same x y e = ap stored_output e

sheet_made : (t : Sheet) {x : List Signal} {y : List Output} {i r : ℕ} → x ≡ t.signals.items → y ≡ t.outputs.items → i ≡ t.inputs → r ≡ t.registers
    → record { signals = record { items = x }; outputs = record { items = y }; inputs = i; registers = r } ≡ t
sheet_made t p q i r = rw (p, q, i, r)

module _ (s t : Sheet) (v : Whole s) (w : Whole t) (e : sheet_of s ≡ sheet_of t) where
  as_many_signals : array_vec_len s.signals ≡ array_vec_len t.signals
  as_many_signals = sym (length_signals s) ∙ ap (λ (x : paper.Sheet). length x.signals) e ∙ length_signals t

  as_many_outputs : array_vec_len s.outputs ≡ array_vec_len t.outputs
  as_many_outputs = sym (length_outputs s) ∙ ap (λ (x : paper.Sheet). length x.outputs) e ∙ length_outputs t

  same_signals : s.signals.items ≡ t.signals.items
  same_signals =
      ext_get_or no_signal s.signals.items t.signals.items as_many_signals λ i h.
      let k : i < array_vec_len t.signals = omega (arith, as_many_signals) in
      right_same i i (nth_signal s i) (nth_signal t i) (v.kept.right i h) (w.kept.right i k) (
      sym (signal_at s i (signal_of no_signal) h)
      ∙ ap (λ (x : paper.Sheet). get_or x.signals i (signal_of no_signal)) e
      ∙ signal_at t i (signal_of no_signal) k
      )

  same_outputs : s.outputs.items ≡ t.outputs.items
  same_outputs =
      ext_get_or no_output s.outputs.items t.outputs.items as_many_outputs λ i h.
      let k : i < array_vec_len t.outputs = omega (arith, as_many_outputs) in
      output_same (nth_output s i) (nth_output t i) (
      sym (output_at s i (output_of no_output) h)
      ∙ ap (λ (x : paper.Sheet). get_or x.outputs i (output_of no_output)) e
      ∙ output_at t i (output_of no_output) k
      )

  same_inputs : s.inputs ≡ t.inputs
  same_inputs = v.kept.inputs ∙ ap (λ (x : paper.Sheet). paper.inputs x.signals) e ∙ sym w.kept.inputs

  same_registers : s.registers ≡ t.registers
  same_registers = v.kept.registers ∙ ap (λ (x : paper.Sheet). paper.registers x.signals) e ∙ sym w.kept.registers

  pub whole_same : s ≡ t
  whole_same = sheet_made t same_signals same_outputs same_inputs same_registers
