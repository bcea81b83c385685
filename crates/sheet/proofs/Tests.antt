-- The tests of MANY and LATER over a stored sheet, kind by kind, and what a signal that passes every test fits. Assumes nothing.
use Rattle.std.specs.Prelude.{◌==◌}
use mathlib.Core.Path.{◌≡◌, refl, sym, ◌∙◌}
use mathlib.Core.Bool.{Bool, true, false, ◌&&◌, ◌||◌}
use mathlib.Core.List.{[]}
use Prim.Native.Nat.{ℕ, ◌≤◌, ◌<◌}
use lib.Dec.{eqb, ltb, leb}
use native.Mathlib.Omega.{arith}
use Rattle.std.proofs.Math.Bool.{or-false}
use borrow.Author.Tests.{eq-eqb, ne_eqb, le-leb, leb-true, leb-false, ltb-false}
use Rattle.arrayvec.specs.ArrayVec.{array_vec_len}
use Rattle.meaning.specs.Numbers.{INPUT, REGISTER, NOT, AND, OR, XOR, OUTPUT, END, max_inputs, max_registers, max_signals, max_outputs}
use Rattle.meaning.specs.Sheet as paper
use Rattle.laws.proofs.Basic.{case_bool, true_false}
use Rattle.sheet.specs.declared.kind.Kind.{Kind}
use Rattle.sheet.specs.declared.kind.Kind.TheVariants.{Input, Register, Not, And, Or, Xor}
use Rattle.sheet.specs.declared.Signal.{Signal}
use Rattle.sheet.specs.declared.Sheet.{Sheet}
use Rattle.sheet.specs.Stored.{number_of_kind, Right, Kept}
use Rattle.sheet.specs.Record.{part_of, second_of, full, late_of, Fits}
use Rattle.sheet.proofs.Right.{number_most}
use Rattle.sheet.proofs.Whole.{length_signals, length_outputs}

-- ## MANY

-- a list is full that has at least as many as it can have
pub full_is : (n m : ℕ) → n ≤ m → (n == m) ≡ leb m n
full_is n m h =
    case_bool (leb m n)
    (λ t. let l : m ≤ n = leb-true m n t in let e : n ≡ m = omega arith in eq-eqb n m e ∙ sym t)
    (λ t. let l : n < m = leb-false m n t in ne_eqb n m (λ e. omega arith) ∙ sym t)

-- the tests over the counts that are stored
many_is : (s : Sheet) (k : ℕ) → Kept s
    → paper.exceeds_limits (part_of s []) k
    ≡ (leb k XOR && leb max_signals (array_vec_len s.signals))
    || (eqb k INPUT && leb max_inputs s.inputs)
    || (eqb k REGISTER && leb max_registers s.registers)
    || (eqb k OUTPUT && leb max_outputs (array_vec_len s.outputs))
unfolding paper.exceeds_limits part_of
many_is s k w = rw (length_signals s, length_outputs s, ← w.inputs, ← w.registers)

module _ {s : Sheet} (w : Kept s) where
  pub many_output : paper.exceeds_limits (part_of s []) OUTPUT ≡ leb max_outputs (array_vec_len s.outputs)
  many_output = many_is s OUTPUT w

  pub many_end : paper.exceeds_limits (part_of s []) END ≡ false
  many_end = many_is s END w

  pub many_signal : (k : Kind) → paper.exceeds_limits (part_of s []) (number_of_kind k) ≡ leb max_signals (array_vec_len s.signals) || full s k
  many_signal Input = simp or-false at (many_is s INPUT w)
  many_signal Register = simp or-false at (many_is s REGISTER w)
  many_signal Not = simp or-false (simp or-false at (many_is s NOT w))
  many_signal And = simp or-false (simp or-false at (many_is s AND w))
  many_signal Or = simp or-false (simp or-false at (many_is s OR w))
  many_signal Xor = simp or-false (simp or-false at (many_is s XOR w))

-- ## LATER

-- a byte after a body of one does not matter
pub late_second : (n : ℕ) (k : Kind) (a b : ℕ) → late_of n (number_of_kind k) a (second_of (number_of_kind k) b) ≡ late_of n (number_of_kind k) a b
unfolding late_of second_of paper.body_of
late_second n Input a b = refl
late_second n Register a b = refl
late_second n Not a b = refl
late_second n And a b = refl
late_second n Or a b = refl
late_second n Xor a b = refl

-- ## What a sound signal fits

or_none : (a b : Bool) → a || b ≡ false → (a ≡ false) × (b ≡ false)
or_none true b e = true_false true refl e
or_none false b e = (refl, e)

module _ (s : Sheet) (x : Signal) (b : ℕ) (w : Kept s) (second : x.b ≡ second_of (number_of_kind x.kind) b)
    (few : false ≡ paper.exceeds_limits (part_of s []) (number_of_kind x.kind))
    (value : false ≡ (eqb (number_of_kind x.kind) REGISTER && ltb 1 x.a))
    (lower : false ≡ late_of (array_vec_len s.signals) (number_of_kind x.kind) x.a x.b) where
  late_none : (leb NOT (number_of_kind x.kind) && leb (number_of_kind x.kind) XOR && leb (array_vec_len s.signals) x.a ≡ false)
      × (leb AND (number_of_kind x.kind) && leb (number_of_kind x.kind) XOR && leb (array_vec_len s.signals) x.b ≡ false)
  unfolding late_of
  late_none = or_none _ _ (sym lower)

  room : (leb max_signals (array_vec_len s.signals) ≡ false) × (full s x.kind ≡ false)
  room = or_none _ _ (sym (many_signal w x.kind) ∙ sym few)

  is_right : Right (array_vec_len s.signals) x
  unfolding second_of paper.body_of
  is_right = record {
    first = λ l. leb-false (array_vec_len s.signals) x.a (simp (le-leb NOT (number_of_kind x.kind) l, le-leb (number_of_kind x.kind) XOR (number_most x.kind)) at late_none.0);
    second = λ l. leb-false (array_vec_len s.signals) x.b (simp (le-leb AND (number_of_kind x.kind) l, le-leb (number_of_kind x.kind) XOR (number_most x.kind)) at late_none.1);
    initial = λ e. ltb-false 1 x.a (sym (rw e at value));
    input = λ e. rw e at second;
    inverter = λ e. rw e at second;
  }

  pub sound_fits : Fits s x
  sound_fits = record {
    signal = leb-false max_signals (array_vec_len s.signals) room.0;
    right = is_right;
    input = λ e. leb-false max_inputs s.inputs (rw e at room.1);
    register = λ e. leb-false max_registers s.registers (rw e at room.1);
  }
