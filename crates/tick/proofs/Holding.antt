-- Laws of what the registers hold, and what holds at every turn of a loop that gives each register its value. Assumes nothing.
use Prim.Native.Nat.{ℕ, zero, suc, ◌+◌, ◌<◌, ◌≤◌}
use mathlib.Core.Path.{◌≡◌, refl, ap, ◌∙◌}
use mathlib.Core.Bool.{Bool, true, false}
use mathlib.Core.List.{List, [], ◌∷◌, ◌++◌, append-nil}
use native.Mathlib.Numerals.{add-one}
use native.Mathlib.Omega.{arith}
use lib.ListN.{length, get_or, take, length-map, length-append}
use lib.Seq.{take_all}
use Rattle.laws.proofs.Basic.{case_bool}
use Rattle.meaning.specs.Numbers.{max_registers}
use Rattle.meaning.specs.Basic.{bit, keep}
use Rattle.meaning.specs.Sheet as paper
use Rattle.meaning.specs.Tick.{initial, sources, taken}
use Rattle.arrayvec.specs.ArrayVec.{array_vec_len}
use Rattle.sheet.specs.declared.Sheet.{Sheet}
use Rattle.sheet.specs.Stored.{signal_of, sheet_of, nth_signal, Kept}
use Rattle.sheet.proofs.Whole.{length_signals, signal_at}
use Rattle.sheet.specs.declared.kind.Kind.TheVariants.{Register}
use Rattle.tick.specs.Tick.{state_of, held_by}
use Rattle.tick.proofs.Valuing.{is_register, no_register}

-- ## Register by register

-- a register's initial value; and what it takes from the values of a tick
unfoldable pub initial_of : paper.Signal → Bool
initial_of (paper.input p) = false
initial_of (paper.register i s) = i
initial_of (paper.inverter a) = false
initial_of (paper.gate g a b) = false

unfoldable pub taken_of : List Bool → paper.Signal → Bool
taken_of vs (paper.input p) = false
taken_of vs (paper.register i s) = bit vs s
taken_of vs (paper.inverter a) = false
taken_of vs (paper.gate g a b) = false

pub initial_held : (ss : List paper.Signal) → held_by initial_of ss ≡ initial ss
unfolding initial initial_of keep paper.signal_is_register
initial_held [] = refl
initial_held (paper.input p ∷ ss) = initial_held ss
initial_held (paper.register i s ∷ ss) = ap (λ (l : List Bool). i ∷ l) (initial_held ss)
initial_held (paper.inverter a ∷ ss) = initial_held ss
initial_held (paper.gate g a b ∷ ss) = initial_held ss

pub taken_held : (vs : List Bool) (ss : List paper.Signal) → held_by (taken_of vs) ss ≡ taken ss vs
unfolding taken taken_of sources keep paper.signal_is_register
taken_held vs [] = refl
taken_held vs (paper.input p ∷ ss) = taken_held vs ss
taken_held vs (paper.register i s ∷ ss) = ap (λ (l : List Bool). bit vs s ∷ l) (taken_held vs ss)
taken_held vs (paper.inverter a ∷ ss) = taken_held vs ss
taken_held vs (paper.gate g a b ∷ ss) = taken_held vs ss

module _ (f : paper.Signal → Bool) where
  held_one : (x : paper.Signal) (ss : List paper.Signal) → paper.signal_is_register x ≡ true → held_by f (x ∷ ss) ≡ f x ∷ held_by f ss
  unfolding keep
  held_one x ss t = rw (t, keep)

  held_skip : (x : paper.Signal) (ss : List paper.Signal) → paper.signal_is_register x ≡ false → held_by f (x ∷ ss) ≡ held_by f ss
  unfolding keep
  held_skip x ss t = rw (t, keep)

  -- one signal more: a register, or none
  held_more : (ss : List paper.Signal) (i : ℕ) (d : paper.Signal) → i < length ss
      → held_by f (take (suc i) ss) ≡ held_by f (take i ss) ++ held_by f (get_or ss i d ∷ [])
  held_more [] i d inside = absurd (omega arith)
  held_more (x ∷ ss) zero d inside = unfold keep in refl
  held_more (x ∷ ss) (suc i) d inside =
      case_bool (paper.signal_is_register x)
      (λ t. rw (held_one x (take (suc i) ss) t, held_one x (take i ss) t) (ap (λ (l : List Bool). f x ∷ l) (held_more ss i d (omega arith))))
      (λ t. rw (held_skip x (take (suc i) ss) t, held_skip x (take i ss) t) (held_more ss i d (omega arith)))

  -- before a register fewer are held than there are
  held_few : (ss : List paper.Signal) (i : ℕ) (d : paper.Signal) → i < length ss → paper.signal_is_register (get_or ss i d) ≡ true
      → length (held_by f (take i ss)) < length (held_by f ss)
  held_few [] i d inside here = absurd (omega arith)
  held_few (x ∷ ss) zero d inside here = unfold keep in rw (held_one x ss here) (omega arith)
  held_few (x ∷ ss) (suc i) d inside here =
      let rest : length (held_by f (take i ss)) < length (held_by f ss) = held_few ss i d (omega arith) here in
      case_bool (paper.signal_is_register x)
      (λ t. rw (held_one x (take i ss) t, held_one x ss t) (omega arith))
      (λ t. rw (held_skip x (take i ss) t, held_skip x ss t) rest)

  module _ (s : Sheet) (kept : Kept s) where
    -- one signal more of a sheet
    held_next : (i : ℕ) → i < array_vec_len s.signals
        → held_by f (take (i + 1) (sheet_of s).signals) ≡ held_by f (take i (sheet_of s).signals) ++ held_by f (signal_of (nth_signal s i) ∷ [])
    held_next i inside =
        let ss = (sheet_of s).signals in
        let here = signal_of (nth_signal s i) in
        let counted : i < length ss = omega (arith, length_signals s) in
        rw (add-one i) (held_more ss i here counted ∙ ap (λ (x : paper.Signal). held_by f (take i ss) ++ held_by f (x ∷ [])) (signal_at s i here inside))

    -- a register's place is free until its turn
    held_room : (i : ℕ) → i < array_vec_len s.signals → (nth_signal s i).kind ≡ Register → length (held_by f (take i (sheet_of s).signals)) < max_registers
    unfolding paper.registers
    held_room i inside kind =
        let ss = (sheet_of s).signals in
        let here = signal_of (nth_signal s i) in
        let counted : i < length ss = omega (arith, length_signals s) in
        let register : paper.signal_is_register (get_or ss i here) ≡ true = rw (signal_at s i here inside) (is_register (nth_signal s i) kind) in
        omega (arith, held_few ss i here counted register, length-map (keep paper.signal_is_register ss) f, kept.registers, kept.few_registers)

    held_register : (i : ℕ) → i < array_vec_len s.signals → (nth_signal s i).kind ≡ Register
        → held_by f (take (i + 1) (sheet_of s).signals) ≡ held_by f (take i (sheet_of s).signals) ++ (f (signal_of (nth_signal s i)) ∷ [])
    unfolding keep
    held_register i inside kind =
        let x = nth_signal s i in
        rw (held_next i inside, held_one (signal_of x) [] (is_register x kind))

    held_other : (i : ℕ) → i < array_vec_len s.signals → ((nth_signal s i).kind ≡ Register → ⊥)
        → held_by f (take (i + 1) (sheet_of s).signals) ≡ held_by f (take i (sheet_of s).signals)
    unfolding keep
    held_other i inside kind =
        let x = nth_signal s i in
        rw (held_next i inside, held_skip (signal_of x) [] (no_register x kind), append-nil)

-- ## The loop over the signals

-- After i signals, the registers among them hold what each f says that `means` what the calls give.
pub record Holding (means : (paper.Signal → Bool) → Type 0) (s : Sheet) (held : List Bool) (i : ℕ) : Type 0 where
  pub counted : length held ≡ length (held_by initial_of (take i (sheet_of s).signals))
  pub holds : (f : paper.Signal → Bool) → means f → held ≡ held_by f (take i (sheet_of s).signals)

module _ (means : (paper.Signal → Bool) → Type 0) (s : Sheet) where
  pub holding_start : (held : List Bool) → held ≡ [] → Holding means s held 0
  unfolding keep
  holding_start held none = record { counted = rw none; holds = λ f is. none }

  module _ (kept : Kept s) (held : List Bool) (i : ℕ) (turn : Holding means s held i) (inside : i < length s.signals.items) where
    pub holding_room : (nth_signal s i).kind ≡ Register → length held < max_registers
    holding_room kind = rw turn.counted (held_room initial_of s kept i inside kind)

    pub holding_other : ((nth_signal s i).kind ≡ Register → ⊥) → Holding means s held (i + 1)
    holding_other kind = record {
      counted = rw (held_other initial_of s kept i inside kind) turn.counted;
      holds = λ f is. rw (held_other f s kept i inside kind) (turn.holds f is);
    }

    pub holding_more : (next : List Bool) (b : Bool) → next ≡ held ++ (b ∷ []) → (nth_signal s i).kind ≡ Register
        → ((f : paper.Signal → Bool) → means f → b ≡ f (signal_of (nth_signal s i)))
        → Holding means s next (i + 1)
    holding_more next b more kind gives = record {
      counted = rw (more, held_register initial_of s kept i inside kind, length-append, length-append) (omega (arith, turn.counted));
      holds = λ f is. rw (more, held_register f s kept i inside kind, ← gives f is, ← turn.holds f is);
    }

  pub holding_end : (held : List Bool) (i : ℕ) → Holding means s held i → length s.signals.items ≤ i
      → (f : paper.Signal → Bool) → means f → record { held = record { items = held } } ≡ state_of (held_by f (sheet_of s).signals)
  unfolding state_of
  holding_end held i turn all f is =
      rw (turn.holds f is, take_all i (sheet_of s).signals (omega (arith, length_signals s)))
