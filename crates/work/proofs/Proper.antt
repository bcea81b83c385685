-- A stored sheet that is whole and has an output is proper; so two that are alike are compatible. Assumes nothing.
use mathlib.Core.Path.{◌≡◌, sym, ap, subst, ◌∙◌}
use mathlib.Core.List.{List, [], ◌∷◌, ◌++◌, append-nil}
use Prim.Native.Nat.{ℕ, zero, suc, ◌+◌, ◌≤◌, ◌<◌}
use native.Mathlib.Omega.{arith}
use lib.ListN.{length, get_or, take, length-append}
use lib.Seq.{append_snoc, length-take-le}
use lib.Dec.{eqb}
use Rattle.arrayvec.specs.ArrayVec.{array_vec_len}
use Rattle.meaning.specs.Numbers.{max_signals}
use Rattle.meaning.specs.Sheet as paper
use Rattle.promises.specs.Proper.{Fits, SignalsFit, OutputsFit, Proper}
use Rattle.lists.specs.Recipes.{Compatible, nth_signal}
use Rattle.lists.proofs.Places.{input-place, register-place}
use Rattle.sheet.specs.declared.Sheet.{Sheet}
use Rattle.sheet.specs.Stored as stored
use Rattle.sheet.specs.Stored.{sheet_of, output_of, Whole}
use Rattle.sheet.proofs.Right.{by_kind, signal_input, signal_register, signal_inverter, signal_and, signal_or, signal_xor}
use Rattle.sheet.proofs.Whole.{length_signals, length_outputs, signal_at, output_at}
use Rattle.work.specs.declared.Pair.{Pair}
use Rattle.work.specs.Lists.{left, right, Alike}

-- ## One by one

signals_fit : (n : ℕ) (before ss : List paper.Signal) → length before + length ss ≤ max_signals
    → ((v : ℕ) → v < length ss → Fits n (before ++ take v ss) (nth_signal ss v)) → SignalsFit n before ss
signals_fit n before [] l each = tt
signals_fit n before (s ∷ ss) l each = (
  omega arith,
  subst (λ (b : List paper.Signal). Fits n b s) (append-nil before) (each zero (omega arith)),
  signals_fit n (before ++ (s ∷ [])) ss (omega (arith, length-append before (s ∷ []))) (λ v lv.
      subst (λ (b : List paper.Signal). Fits n b (nth_signal ss v)) (sym (append_snoc before s (take v ss))) (each (suc v) (omega arith))),
)

outputs_fit : (n : ℕ) (none : paper.Output) (os : List paper.Output) → ((i : ℕ) → i < length os → (get_or os i none).signal < n) → OutputsFit n os
outputs_fit n none [] each = tt
outputs_fit n none (o ∷ os) each = (each zero (omega arith), outputs_fit n none os (λ i l. each (suc i) (omega arith)))

-- ## A stored sheet

module _ (s : Sheet) (w : Whole s) where
  abbrev ss : List paper.Signal
  ss = (sheet_of s).signals

  signal_fits : (v : ℕ) → v < array_vec_len s.signals → Fits (length ss) (take v ss) (nth_signal ss v)
  signal_fits v l =
      let k = w.kept in
      let x = stored.nth_signal s v in
      let r = k.right v l in
      let lv : v < length ss = omega (arith, length_signals s) in
      let seen : length (take v ss) ≡ v = length-take-le v ss (omega arith) in
      let is : nth_signal ss v ≡ stored.signal_of x = signal_at s v (paper.input 0) l in
      let fits-as : (y : paper.Signal) → stored.signal_of x ≡ y → Fits (length ss) (take v ss) y → Fits (length ss) (take v ss) (nth_signal ss v) =
      λ y e f. subst (Fits (length ss) (take v ss)) (sym (is ∙ e)) f in
      by_kind x
      (λ e. fits-as (paper.input x.a) (signal_input x e)
      (omega (arith, input-place ss v x.a lv (is ∙ signal_input x e), k.inputs, k.few_inputs)))
      (λ e. fits-as (paper.register (eqb x.a 1) x.b) (signal_register x e) (
        omega (arith, (register-place ss v (eqb x.a 1) x.b lv (is ∙ signal_register x e)).0, k.registers, k.few_registers),
        omega (arith, w.sources v l e, length_signals s),
      ))
      (λ e. fits-as (paper.inverter x.a) (signal_inverter x e) (omega (arith, r.first (rw e (omega arith)), seen)))
      (λ e. fits-as (paper.gate paper.and x.a x.b) (signal_and x e)
      (omega (arith, r.first (rw e (omega arith)), seen), omega (arith, r.second (rw e (omega arith)), seen)))
      (λ e. fits-as (paper.gate paper.or x.a x.b) (signal_or x e)
      (omega (arith, r.first (rw e (omega arith)), seen), omega (arith, r.second (rw e (omega arith)), seen)))
      (λ e. fits-as (paper.gate paper.xor x.a x.b) (signal_xor x e)
      (omega (arith, r.first (rw e (omega arith)), seen), omega (arith, r.second (rw e (omega arith)), seen)))

  output_fits : (i : ℕ) → i < array_vec_len s.outputs → (get_or (sheet_of s).outputs i (output_of stored.no_output)).signal < length ss
  unfolding output_of
  output_fits i l =
      let e : (get_or (sheet_of s).outputs i (output_of stored.no_output)).signal ≡ (stored.nth_output s i).signal =
      ap (λ (o : paper.Output). o.signal) (output_at s i (output_of stored.no_output) l) in
      omega (arith, w.shown i l, length_signals s)

  whole_proper : 0 < array_vec_len s.outputs → Proper (sheet_of s)
  whole_proper some =
      let k = w.kept in
      record {
        signals = signals_fit (length ss) [] ss (omega (arith, length_signals s, k.few_signals)) (λ v l. signal_fits v (omega (arith, length_signals s)));
        outputs = outputs_fit (length ss) (output_of stored.no_output) (sheet_of s).outputs (λ i l. output_fits i (omega (arith, length_outputs s)));
        some = omega (arith, length_outputs s);
        few = omega (arith, length_outputs s, k.few_outputs);
      }

-- ## Two that are alike

pub alike_compatible : (p : Pair) → Alike p → Compatible (left p) (right p)
unfolding left right
alike_compatible p a = record {
  left_proper = whole_proper p.a a.whole_a a.shown_a;
  right_proper = whole_proper p.b a.whole_b a.shown_b;
  like_inputs = sym a.whole_a.kept.inputs ∙ a.inputs ∙ a.whole_b.kept.inputs;
}
