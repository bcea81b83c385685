-- The bytes of stored records, and of a list one record longer. Assumes nothing.
use mathlib.Core.Path.{◌≡◌, refl, sym, ap, ◌∙◌}
use mathlib.Core.List.{List, [], ◌∷◌, ◌++◌, append-nil, append_assoc}
use Prim.Native.Nat.{ℕ, ◌+◌, ◌*◌, ◌≤◌, ◌<◌}
use native.Mathlib.Numerals.{add-one}
use native.Mathlib.Omega.{arith}
use lib.ListN.{length, get_or, take, drop, length-append, take-append-drop}
use lib.Seq.{take-suc}
use Rattle.arrayvec.specs.ArrayVec.{array_vec_len}
use Rattle.meaning.specs.Numbers.{OUTPUT, END}
use Rattle.meaning.specs.Basic.{concat_map}
use Rattle.meaning.specs.Sheet as paper
use Rattle.sheet.specs.declared.kind.Kind.{Kind}
use Rattle.sheet.specs.declared.kind.Kind.TheVariants.{Input, Register, Not, And, Or, Xor}
use Rattle.sheet.specs.declared.Signal.{Signal}
use Rattle.sheet.specs.declared.Output.{Output}
use Rattle.sheet.specs.declared.Sheet.{Sheet}
use Rattle.sheet.specs.Stored.{number_of_kind, signal_of, output_of, sheet_of, no_signal, no_output, nth_signal, nth_output, Right, Kept}
use Rattle.sheet.specs.Writing.{bytes_of_record}
use Rattle.sheet.proofs.Whole.{signal_at, output_at}
use Rattle.sheet.proofs.Right.{bit_own}

-- ## Records

kind_bytes : (k : Kind) (a b : ℕ) → (k ≡ Register → a ≤ 1)
    → take (1 + paper.body_of (number_of_kind k)) (number_of_kind k ∷ a ∷ b ∷ []) ≡ paper.bytes_of_signal (paper.signal_of (number_of_kind k) a b)
unfolding paper.body_of paper.bytes_of_signal paper.signal_of paper.gate_kind
kind_bytes Input a b h = refl
kind_bytes Register a b h = rw (bit_own a (h refl))
kind_bytes Not a b h = refl
kind_bytes And a b h = refl
kind_bytes Or a b h = refl
kind_bytes Xor a b h = refl

kind_length : (k : Kind) (a b : ℕ) → length (paper.bytes_of_signal (paper.signal_of (number_of_kind k) a b)) ≡ 1 + paper.body_of (number_of_kind k)
unfolding paper.body_of paper.bytes_of_signal paper.signal_of
kind_length Input a b = refl
kind_length Register a b = refl
kind_length Not a b = refl
kind_length And a b = refl
kind_length Or a b = refl
kind_length Xor a b = refl

pub signal_length : (x : Signal) → length (paper.bytes_of_signal (signal_of x)) ≡ 1 + paper.body_of (number_of_kind x.kind)
unfolding signal_of
signal_length x = kind_length x.kind x.a x.b

signal_bytes : (i : ℕ) (x : Signal) → Right i x → bytes_of_record x ≡ paper.bytes_of_signal (signal_of x)
unfolding bytes_of_record signal_of
signal_bytes i x r = kind_bytes x.kind x.a x.b r.initial

output_bytes : (o : Output) → OUTPUT ∷ o.pin ∷ o.signal ∷ [] ≡ paper.bytes_of_output (output_of o)
unfolding paper.bytes_of_output output_of
output_bytes o = refl

-- record i of a stored sheet
module _ (s : Sheet) (w : Kept s) (i : ℕ) where
  pub signal_here : i < array_vec_len s.signals → bytes_of_record (nth_signal s i) ≡ paper.bytes_of_signal (get_or (sheet_of s).signals i (signal_of no_signal))
  signal_here h = signal_bytes i (nth_signal s i) (w.right i h) ∙ ap paper.bytes_of_signal (sym (signal_at s i (signal_of no_signal) h))

  pub output_here : i < array_vec_len s.outputs
      → OUTPUT ∷ (nth_output s i).pin ∷ (nth_output s i).signal ∷ [] ≡ paper.bytes_of_output (get_or (sheet_of s).outputs i (output_of no_output))
  output_here h = output_bytes (nth_output s i) ∙ ap paper.bytes_of_output (sym (output_at s i (output_of no_output) h))

-- ## Lists

concat-append : {A : Type 0} (f : A → List ℕ) (xs ys : List A) → concat_map f (xs ++ ys) ≡ concat_map f xs ++ concat_map f ys
unfolding concat_map
concat-append f [] ys = refl
concat-append f (x ∷ xs) ys = rw (concat-append f xs ys, append_assoc)

module _ {A : Type 0} (f : A → List ℕ) (l : List A) where
  -- one element more
  pub concat_more : (i : ℕ) (d : A) → i < length l → concat_map f (take (i + 1) l) ≡ concat_map f (take i l) ++ f (get_or l i d)
  unfolding concat_map
  concat_more i d h = rw (add-one, take-suc l i d, concat-append, append-nil)

  pub concat_part : (i : ℕ) → length (concat_map f (take i l)) ≤ length (concat_map f l)
  concat_part i =
      let e : concat_map f l ≡ concat_map f (take i l) ++ concat_map f (drop i l) =
      ap (concat_map f) (sym (take-append-drop i l)) ∙ concat-append f (take i l) (drop i l) in
      omega (arith, ap length e, length-append (concat_map f (take i l)) (concat_map f (drop i l)))

-- ## Lengths

signal_three : (y : paper.Signal) → length (paper.bytes_of_signal y) ≤ 3
unfolding paper.bytes_of_signal
signal_three (paper.input p) = omega arith
signal_three (paper.register i s) = omega arith
signal_three (paper.inverter a) = omega arith
signal_three (paper.gate g a b) = omega arith

pub signals_three : (ss : List paper.Signal) → length (concat_map paper.bytes_of_signal ss) ≤ 3 * length ss
unfolding concat_map
signals_three [] = omega arith
signals_three (s ∷ ss) =
    omega (arith, signal_three s, signals_three ss, length-append (paper.bytes_of_signal s) (concat_map paper.bytes_of_signal ss))

pub outputs_three : (os : List paper.Output) → length (concat_map paper.bytes_of_output os) ≡ 3 * length os
unfolding concat_map paper.bytes_of_output
outputs_three [] = refl
outputs_three (o ∷ os) = omega (arith, outputs_three os)

-- signals, outputs, END
pub sheet_length : (s : paper.Sheet) → length (paper.bytes_of_sheet s)
    ≡ length (concat_map paper.bytes_of_signal s.signals) + length (concat_map paper.bytes_of_output s.outputs) + 1
unfolding paper.bytes_of_sheet
sheet_length s =
    let outputs = concat_map paper.bytes_of_output s.outputs in
    omega (arith, length-append (concat_map paper.bytes_of_signal s.signals) (outputs ++ (END ∷ [])), length-append outputs (END ∷ []))
