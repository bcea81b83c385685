-- Laws of the values of a tick, and what holds at every turn of the loop that computes them. Assumes nothing.
use Rattle.std.specs.Prelude.{if◌then◌else◌}
use Rattle.std.proofs.Common.{rules}
use mathlib.Core.Logic.{◌⊎◌}
use Prim.Native.Nat.{ℕ, zero, suc, ◌+◌, ◌<◌, ◌≤◌}
use mathlib.Core.Path.{◌≡◌, refl, sym, ap, ◌∙◌}
use mathlib.Core.Bool.{Bool, true, false}
use mathlib.Core.List.{List, [], ◌∷◌, ◌++◌, tail}
use native.Mathlib.Numerals.{add-one}
use native.Mathlib.Omega.{arith}
use lib.ListN.{length, drop, set, length-append, drop_of_length-le}
use lib.Seq.{drop-cons, get_or-drop}
use mir.Val.{bool_byte}
use Rattle.meaning.specs.Numbers.{max_signals}
use Rattle.meaning.specs.Basic.{bit}
use Rattle.meaning.specs.Sheet as paper
use Rattle.meaning.specs.Tick.{values_from, values}
use Rattle.sheet.specs.declared.Signal.{Signal}
use Rattle.arrayvec.specs.ArrayVec.{array_vec_len}
use Rattle.sheet.specs.declared.Sheet.{Sheet}
use Rattle.sheet.specs.Stored.{signal_of, sheet_of, nth_signal, Kept}
use Rattle.sheet.proofs.Right.{by_kind, signal_input, signal_register, signal_inverter, signal_and, signal_or, signal_xor}
use Rattle.sheet.proofs.Whole.{length_signals, signal_at}
use Rattle.sheet.specs.declared.kind.Kind.{Kind}
use Rattle.sheet.specs.declared.kind.Kind.TheVariants.{Input, Register, Not, And, Or, Xor}
use Rattle.tick.specs.Tick.{padded, value_of}
use Rattle.tick.proofs.Padded.{padded_more, bit-padded}

-- ## Which signals are registers, and which are inputs

module _ (x : Signal) where
  pub is_register : x.kind ≡ Register → paper.signal_is_register (signal_of x) ≡ true
  unfolding paper.signal_is_register
  is_register e = rw (signal_register x e)

  pub no_register : (x.kind ≡ Register → ⊥) → paper.signal_is_register (signal_of x) ≡ false
  unfolding paper.signal_is_register
  no_register other =
      by_kind x
      (λ e. rw (signal_input x e))
      (λ e. absurd (other e))
      (λ e. rw (signal_inverter x e))
      (λ e. rw (signal_and x e))
      (λ e. rw (signal_or x e))
      (λ e. rw (signal_xor x e))

  is_input : x.kind ≡ Input → paper.signal_is_input (signal_of x) ≡ true
  unfolding paper.signal_is_input
  is_input e = rw (signal_input x e)

  no_input : (x.kind ≡ Input → ⊥) → paper.signal_is_input (signal_of x) ≡ false
  unfolding paper.signal_is_input
  no_input other =
      by_kind x
      (λ e. absurd (other e))
      (λ e. rw (signal_register x e))
      (λ e. rw (signal_inverter x e))
      (λ e. rw (signal_and x e))
      (λ e. rw (signal_or x e))
      (λ e. rw (signal_xor x e))

other_kind : Register ≡ Input → ⊥
other_kind e = absurd (cc)

-- a kind that is neither, as an arm for the others has it
abbrev Gate : Kind → Type 0
Gate k = (k ≡ Not) ⊎ (k ≡ And) ⊎ (k ≡ Or) ⊎ (k ≡ Xor)

neither : (k : Kind) → Gate k → (k ≡ Register → ⊥) × (k ≡ Input → ⊥)
neither Input gate = absurd (search (rules, gate))
neither Register gate = absurd (search (rules, gate))
neither Not gate = (λ e. absurd (cc), λ e. absurd (cc))
neither And gate = (λ e. absurd (cc), λ e. absurd (cc))
neither Or gate = (λ e. absurd (cc), λ e. absurd (cc))
neither Xor gate = (λ e. absurd (cc), λ e. absurd (cc))

-- ## The values of signals, one at a time

-- the values of a list from the next on, if the next is taken
abbrev rest : Bool → List Bool → List Bool
rest b l = if b then tail l else l

values-next : (x : paper.Signal) (ss : List paper.Signal) (rs xs vs : List Bool)
    → values_from (x ∷ ss) rs xs vs ≡ values_from ss (rest (paper.signal_is_register x) rs) (rest (paper.signal_is_input x) xs) (vs ++ (value_of x (bit rs 0) (bit xs 0) vs ∷ []))
unfolding values_from value_of paper.signal_is_register paper.signal_is_input
values-next (paper.input p) ss rs xs vs = refl
values-next (paper.register i s) ss rs xs vs = refl
values-next (paper.inverter a) ss rs xs vs = refl
values-next (paper.gate g a b) ss rs xs vs = refl

tail_drop : (n : ℕ) (l : List Bool) → tail (drop n l) ≡ drop (suc n) l
tail_drop zero [] = refl
tail_drop zero (b ∷ l) = refl
tail_drop (suc n) [] = refl
tail_drop (suc n) (b ∷ l) = tail_drop n l

rest_drop : (b : Bool) (n : ℕ) (l : List Bool) → rest b (drop n l) ≡ drop (n + bool_byte b) l
rest_drop true n l = rw add-one (tail_drop n l)
rest_drop false n l = let same : n + 0 ≡ n = omega arith in rw same

pub byte_most : (b : Bool) → bool_byte b ≤ 1
byte_most true = omega arith
byte_most false = omega arith

bit-drop : (n : ℕ) (l : List Bool) → bit (drop n l) 0 ≡ bit l n
bit-drop n l = let same : n + 0 ≡ n = omega arith in get_or-drop n l 0 false ∙ ap (bit l) same

-- a value is the same from values in places
value-padded : (x : paper.Signal) (held given : Bool) (places : ℕ) (vs : List Bool)
    → value_of x held given (padded places vs) ≡ value_of x held given vs
unfolding value_of
value-padded (paper.input p) held given places vs = refl
value-padded (paper.register i s) held given places vs = refl
value-padded (paper.inverter a) held given places vs = rw bit-padded
value-padded (paper.gate g a b) held given places vs = rw (bit-padded places vs a, bit-padded places vs b)

-- ## The loop over the signals

-- Of the first i signals, among them r registers and x inputs, the values are stored, and what is left to compute goes on from them.
pub record Valuing (s : Sheet) (rs xs v : List Bool) (r x i : ℕ) : Type 0 where
  pub registers : r ≤ i
  pub inputs : x ≤ i
  pub done : List Bool
  pub long : length done ≡ i
  pub stored : v ≡ padded max_signals done
  pub left : values_from (drop i (sheet_of s).signals) (drop r rs) (drop x xs) done ≡ values (sheet_of s).signals rs xs

-- the signals from the i-th on
signals_from : (s : Sheet) (i : ℕ) → i < array_vec_len s.signals
    → drop i (sheet_of s).signals ≡ signal_of (nth_signal s i) ∷ drop (suc i) (sheet_of s).signals
signals_from s i inside =
    let ss = (sheet_of s).signals in
    let here = signal_of (nth_signal s i) in
    drop-cons ss i here (omega (arith, length_signals s)) ∙ ap (λ (x : paper.Signal). x ∷ drop (suc i) ss) (signal_at s i here inside)

module _ (s : Sheet) (kept : Kept s) (rs xs : List Bool) where
  pub valuing_start : Valuing s rs xs (padded max_signals []) 0 0 0
  unfolding values
  valuing_start = record {
    registers = omega arith;
    inputs = omega arith;
    done = [];
    long = refl;
    stored = refl;
    left = refl;
  }

  module _ (v : List Bool) (r x i : ℕ) (turn : Valuing s rs xs v r x i) where
    -- a value computed from the places is the one that comes next
    value-next : (here : paper.Signal) → value_of here (bit rs r) (bit xs x) v ≡ value_of here (bit (drop r rs) 0) (bit (drop x xs) 0) turn.done
    value-next here = rw (turn.stored, value-padded here (bit rs r) (bit xs x) max_signals turn.done, bit-drop r rs, bit-drop x xs)

    module _ (b : Bool) (inside : i < length s.signals.items)
        (is : b ≡ value_of (signal_of (nth_signal s i)) (bit rs r) (bit xs x) v) where
      abbrev here : Signal
      here = nth_signal s i

      valuing_more : (reg inp : Bool) → paper.signal_is_register (signal_of here) ≡ reg → paper.signal_is_input (signal_of here) ≡ inp
          → (r' x' : ℕ) → r' ≡ r + bool_byte reg → x' ≡ x + bool_byte inp → Valuing s rs xs (set v i b) r' x' (i + 1)
      valuing_more reg inp is-reg is-inp r' x' rs-more xs-more =
          let later = drop (suc i) (sheet_of s).signals in
          let next : values_from (signal_of here ∷ later) (drop r rs) (drop x xs) turn.done ≡ values (sheet_of s).signals rs xs = rw (← signals_from s i inside) turn.left in
          record {
            registers = omega (arith, turn.registers, byte_most reg, rs-more);
            inputs = omega (arith, turn.inputs, byte_most inp, xs-more);
            done = turn.done ++ (b ∷ []);
            long = simp length-append (omega (arith, turn.long));
            stored = rw turn.stored (padded_more max_signals turn.done i b turn.long (omega (arith, kept.few_signals, inside)));
            left =
                rw (add-one i, rs-more, xs-more, ← rest_drop reg r rs, ← rest_drop inp x xs, ← is-reg, ← is-inp, is ∙ value-next (signal_of here))
                (sym (values-next (signal_of here) later (drop r rs) (drop x xs) turn.done) ∙ next);
          }

      pub valuing_register : here.kind ≡ Register → Valuing s rs xs (set v i b) (r + 1) x (i + 1)
      valuing_register kind = valuing_more true false (is_register here kind) (no_input here (λ e. other_kind (sym kind ∙ e))) _ _ (omega arith) (omega arith)

      pub valuing_input : here.kind ≡ Input → Valuing s rs xs (set v i b) r (x + 1) (i + 1)
      valuing_input kind = valuing_more false true (no_register here (λ e. other_kind (sym e ∙ kind))) (is_input here kind) _ _ (omega arith) (omega arith)

      pub valuing_gate : Gate here.kind → Valuing s rs xs (set v i b) r x (i + 1)
      valuing_gate gate =
          let other = neither here.kind gate in
          valuing_more false false (no_register here other.0) (no_input here other.1) _ _ (omega arith) (omega arith)

    pub valuing_end : length s.signals.items ≤ i → v ≡ padded max_signals (values (sheet_of s).signals rs xs)
    unfolding values_from
    valuing_end all =
        let none : drop i (sheet_of s).signals ≡ [] = drop_of_length-le (sheet_of s).signals {i = i} (omega (arith, length_signals s)) in
        turn.stored ∙ ap (padded max_signals) (sym (rw none) ∙ turn.left)
