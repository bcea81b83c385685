-- One more signal or output: what a sheet then is, and that it is kept right. Assumes nothing.
use Rattle.std.specs.Prelude.{if◌then◌else◌}
use mathlib.Core.Path.{◌≡◌, refl, sym, ap, subst}
use mathlib.Core.Bool.{Bool}
use mathlib.Core.List.{List, [], ◌∷◌, ◌++◌, map-append}
use Prim.Native.Nat.{ℕ, ◌+◌, ◌≤◌, ◌<◌}
use native.Mathlib.Omega.{arith}
use lib.ListN.{length, get_or, length-append, get_or-append}
use lib.Dec.{eqb, ltb}
use lib.Seq.{get_or-append_seam}
use borrow.Author.Tests.{ltb-true, ltb-false, eqb-true}
use Rattle.arrayvec.specs.ArrayVec.{array_vec_len}
use Rattle.meaning.specs.Numbers.{INPUT, REGISTER, max_inputs, max_registers, max_outputs}
use Rattle.meaning.specs.Basic.{keep}
use Rattle.meaning.specs.Sheet as paper
use Rattle.laws.proofs.Basic.{case_bool}
use Rattle.sheet.specs.declared.kind.Kind.{Kind}
use Rattle.sheet.specs.declared.kind.Kind.TheVariants.{Input, Register, Not, And, Or, Xor}
use Rattle.sheet.specs.declared.Signal.{Signal}
use Rattle.sheet.specs.declared.Output.{Output}
use Rattle.sheet.specs.declared.Sheet.{Sheet}
use Rattle.sheet.specs.Stored.{number_of_kind, signal_of, output_of, sheet_of, Right, Kept}
use Rattle.sheet.specs.Record.{Fits}
use Rattle.sheet.specs.Part.{count_of, sheet_with_signal, sheet_with_output}
use Rattle.sheet.proofs.Right.{number_same}

-- ## One more

module _ {A : Type 0} (l : List A) (v : A) where
  pub length_more : length (l ++ v ∷ []) ≡ length l + 1
  length_more = length-append l (v ∷ [])

  -- what holds of each and of one more holds of each when that is added
  pub each_more : (P : ℕ → A → Type 0) (none : A)
      → ((i : ℕ) → i < length l → P i (get_or l i none)) → P (length l) v → (i : ℕ) → i < length (l ++ v ∷ []) → P i (get_or (l ++ v ∷ []) i none)
  each_more P none old new i b =
      case_bool (ltb i (length l))
      (λ t. let k = ltb-true i (length l) t in subst (P i) (sym (get_or-append l (v ∷ []) none i k)) (old i k))
      (λ t.
      let k = ltb-false i (length l) t in
      let e : i ≡ length l = omega (arith, length_more) in
      rw e (subst (P (length l)) (sym (get_or-append_seam l v [] none)) new))

-- ## Counts

kept_snoc : {A : Type 0} (p : A → Bool) (xs : List A) (x : A) → length (keep p (xs ++ (x ∷ []))) ≡ length (keep p xs) + (if p x then 1 else 0)
unfolding keep
kept_snoc p [] x = case_bool (p x) (λ t. rw (t, keep)) (λ t. rw (t, keep))
kept_snoc p (y ∷ xs) x =
    let rest = kept_snoc p xs x in
    case_bool (p y) (λ t. rw (t, keep) (omega arith)) (λ t. rw (t, keep) rest)

-- a record defines an input, or a register, exactly if it has that kind
is_input : (k : Kind) (a b : ℕ) → paper.signal_is_input (paper.signal_of (number_of_kind k) a b) ≡ eqb (number_of_kind k) INPUT
unfolding paper.signal_is_input paper.signal_of
is_input Input a b = refl
is_input Register a b = refl
is_input Not a b = refl
is_input And a b = refl
is_input Or a b = refl
is_input Xor a b = refl

is_register : (k : Kind) (a b : ℕ) → paper.signal_is_register (paper.signal_of (number_of_kind k) a b) ≡ eqb (number_of_kind k) REGISTER
unfolding paper.signal_is_register paper.signal_of
is_register Input a b = refl
is_register Register a b = refl
is_register Not a b = refl
is_register And a b = refl
is_register Or a b = refl
is_register Xor a b = refl

-- a count that grows only where its limit has room
pub room : (k x m l : ℕ) → m ≤ l → (k ≡ x → m < l) → m + count_of k x ≤ l
room k x m l h g =
    case_bool (eqb k x)
    (λ t. let b : m < l = g (eqb-true k x t) in rw t (omega arith))
    (λ t. rw t (omega arith))

-- ## One more signal

module _ (s : Sheet) (x : Signal) (w : Kept s) (f : Fits s x) where
  pub signals_snoc : (sheet_of (sheet_with_signal s x)).signals ≡ (sheet_of s).signals ++ (signal_of x ∷ [])
  unfolding sheet_of
  signals_snoc = map-append signal_of s.signals.items (x ∷ [])

  inputs_snoc : s.inputs + count_of (number_of_kind x.kind) INPUT ≡ paper.inputs (sheet_of (sheet_with_signal s x)).signals
  unfolding paper.inputs signal_of
  inputs_snoc =
      rw (signals_snoc, kept_snoc paper.signal_is_input, is_input x.kind x.a x.b)
      (ap (λ (n : ℕ). n + (if eqb (number_of_kind x.kind) INPUT then 1 else 0)) w.inputs)

  registers_snoc : s.registers + count_of (number_of_kind x.kind) REGISTER ≡ paper.registers (sheet_of (sheet_with_signal s x)).signals
  unfolding paper.registers signal_of
  registers_snoc =
      rw (signals_snoc, kept_snoc paper.signal_is_register, is_register x.kind x.a x.b)
      (ap (λ (n : ℕ). n + (if eqb (number_of_kind x.kind) REGISTER then 1 else 0)) w.registers)

  pub signal_kept : Kept (sheet_with_signal s x)
  signal_kept = record {
    few_signals = omega (arith, length_more s.signals.items x, f.signal);
    few_outputs = w.few_outputs;
    inputs = inputs_snoc;
    few_inputs = room (number_of_kind x.kind) INPUT s.inputs max_inputs w.few_inputs (λ e. f.input (number_same x.kind Input e));
    registers = registers_snoc;
    few_registers = room (number_of_kind x.kind) REGISTER s.registers max_registers w.few_registers (λ e. f.register (number_same x.kind Register e));
    right = each_more s.signals.items x Right _ w.right f.right;
  }

-- ## One more output

module _ (s : Sheet) (o : Output) (w : Kept s) (h : array_vec_len s.outputs < max_outputs) where
  pub outputs_snoc : (sheet_of (sheet_with_output s o)).outputs ≡ (sheet_of s).outputs ++ (output_of o ∷ [])
  unfolding sheet_of
  outputs_snoc = map-append output_of s.outputs.items (o ∷ [])

  pub output_kept : Kept (sheet_with_output s o)
  unfolding sheet_of
  output_kept = record {
    few_signals = w.few_signals;
    few_outputs = omega (arith, length_more s.outputs.items o, h);
    inputs = w.inputs;
    few_inputs = w.few_inputs;
    registers = w.registers;
    few_registers = w.few_registers;
    right = w.right;
  }
