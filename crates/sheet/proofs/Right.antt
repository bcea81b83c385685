-- Laws of a signal's record: which signal each kind defines, and that right records of one signal are one. Assumes nothing.
use Rattle.std.specs.Prelude.{if◌then◌else◌}
use mathlib.Core.Path.{◌≡◌, refl, sym, ap, ◌∙◌}
use Prim.Native.Nat.{ℕ, zero, suc, ◌≤◌}
use native.Mathlib.Omega.{arith}
use lib.Dec.{eqb}
use Rattle.meaning.specs.Numbers.{INPUT, REGISTER, NOT, AND, OR, XOR}
use Rattle.meaning.specs.Sheet as paper
use Rattle.sheet.specs.declared.kind.Kind.{Kind}
use Rattle.sheet.specs.declared.kind.Kind.TheVariants.{Input, Register, Not, And, Or, Xor}
use Rattle.sheet.specs.declared.Signal.{Signal}
use Rattle.sheet.specs.Stored.{number_of_kind, signal_of, Right}

-- ## The kinds that define a signal

kinds {ℓ} : {P : Type ℓ} (k : Kind)
    → (k ≡ Input → P) → (k ≡ Register → P) → (k ≡ Not → P) → (k ≡ And → P) → (k ≡ Or → P) → (k ≡ Xor → P) → P
kinds Input i r n a o x = i refl
kinds Register i r n a o x = r refl
kinds Not i r n a o x = n refl
kinds And i r n a o x = a refl
kinds Or i r n a o x = o refl
kinds Xor i r n a o x = x refl

-- each has a number of its own
kind_at : ℕ → Kind
kind_at n =
    if eqb n INPUT then Input else if eqb n REGISTER then Register else if eqb n NOT then Not else if eqb n AND then And else if eqb n OR then Or else Xor

number_back : (k : Kind) → kind_at (number_of_kind k) ≡ k
unfolding kind_at
number_back Input = refl
number_back Register = refl
number_back Not = refl
number_back And = refl
number_back Or = refl
number_back Xor = refl

pub number_same : (j k : Kind) → number_of_kind j ≡ number_of_kind k → j ≡ k
number_same j k e = sym (number_back j) ∙ ap kind_at e ∙ number_back k

pub number_most : (k : Kind) → number_of_kind k ≤ XOR
number_most Input = omega arith
number_most Register = omega arith
number_most Not = omega arith
number_most And = omega arith
number_most Or = omega arith
number_most Xor = omega arith

pub by_kind {ℓ} : {P : Type ℓ} (x : Signal)
    → (x.kind ≡ Input → P)
    → (x.kind ≡ Register → P)
    → (x.kind ≡ Not → P)
    → (x.kind ≡ And → P)
    → (x.kind ≡ Or → P)
    → (x.kind ≡ Xor → P)
    → P
by_kind x = kinds x.kind

module _ (x : Signal) where
  pub signal_input : x.kind ≡ Input → signal_of x ≡ paper.input x.a
  unfolding signal_of paper.signal_of
  signal_input e = rw e

  pub signal_register : x.kind ≡ Register → signal_of x ≡ paper.register (eqb x.a 1) x.b
  unfolding signal_of paper.signal_of
  signal_register e = rw e

  pub signal_inverter : x.kind ≡ Not → signal_of x ≡ paper.inverter x.a
  unfolding signal_of paper.signal_of
  signal_inverter e = rw e

  pub signal_and : x.kind ≡ And → signal_of x ≡ paper.gate paper.and x.a x.b
  unfolding signal_of paper.signal_of
  signal_and e = rw e

  pub signal_or : x.kind ≡ Or → signal_of x ≡ paper.gate paper.or x.a x.b
  unfolding signal_of paper.signal_of
  signal_or e = rw e

  pub signal_xor : x.kind ≡ Xor → signal_of x ≡ paper.gate paper.xor x.a x.b
  unfolding signal_of paper.signal_of
  signal_xor e = rw e

-- ## The record that defines a signal

kind_of : paper.Gate → Kind
kind_of paper.and = And
kind_of paper.or = Or
kind_of paper.xor = Xor

unfoldable record_of : paper.Signal → Signal
record_of (paper.input p) = record { kind = Input; a = p; b = 0 }
record_of (paper.register i s) = record { kind = Register; a = if i then 1 else 0; b = s }
record_of (paper.inverter a) = record { kind = Not; a = a; b = 0 }
record_of (paper.gate g a b) = record { kind = kind_of g; a = a; b = b }

-- an initial value is its own bit
pub bit_own : (n : ℕ) → n ≤ 1 → (if eqb n 1 then 1 else 0) ≡ n
bit_own zero h = refl
bit_own (suc zero) h = refl
bit_own (suc (suc n)) h = absurd (omega arith)

record_kind : (k : Kind) (a b : ℕ) → (k ≡ Input → b ≡ 0) → (k ≡ Register → a ≤ 1) → (k ≡ Not → b ≡ 0)
    → record_of (paper.signal_of (number_of_kind k) a b) ≡ record { kind = k; a = a; b = b }
unfolding record_of kind_of paper.signal_of
record_kind Input a b i r n = rw (i refl)
record_kind Register a b i r n = rw (bit_own a (r refl))
record_kind Not a b i r n = rw (n refl)
record_kind And a b i r n = refl
record_kind Or a b i r n = refl
record_kind Xor a b i r n = refl

record_signal : (i : ℕ) (x : Signal) → Right i x → record_of (signal_of x) ≡ x
unfolding signal_of
record_signal i x r = record_kind x.kind x.a x.b r.input r.initial r.inverter

pub right_same : (i j : ℕ) (x y : Signal) → Right i x → Right j y → signal_of x ≡ signal_of y → x ≡ y
right_same i j x y r s e = sym (record_signal i x r) ∙ ap record_of e ∙ record_signal j y s
