-- The places of inputs and of registers among their kind. Assumes nothing.
use Rattle.std.specs.Prelude.{if◌then◌else◌}
use mathlib.Core.Path.{◌≡◌, refl}
use mathlib.Core.Bool.{Bool}
use mathlib.Core.List.{List, [], ◌∷◌}
use Prim.Native.Nat.{ℕ, zero, suc, ◌+◌, ◌≤◌, ◌<◌}
use native.Mathlib.Omega.{arith}
use lib.ListN.{length, get_or, take}
use Rattle.meaning.specs.Basic.{bit, keep}
use Rattle.meaning.specs.Sheet.{Signal, input, register, inverter, gate, signal_is_input, signal_is_register, inputs, registers}
use Rattle.meaning.specs.Tick.{initial, sources}
use Rattle.laws.proofs.Basic.{case_bool}
use Rattle.lists.specs.Recipes.{nth_signal}

-- ## How many of a kind stand before signal v

module _ (kind : Signal → Bool) where
  keep-cons : (s : Signal) (ss : List Signal) → length (keep kind (s ∷ ss)) ≡ (if kind s then 1 else 0) + length (keep kind ss)
  unfolding keep
  keep-cons s ss = case_bool (kind s) (λ t. rw (t, keep) (omega arith)) (λ t. rw (t, keep) (omega arith))

  keep-next : (ss : List Signal) (v : ℕ) → v < length ss
      → length (keep kind (take (suc v) ss)) ≡ length (keep kind (take v ss)) + (if kind (nth_signal ss v) then 1 else 0)
  keep-next [] v l = absurd (omega arith)
  keep-next (s ∷ ss) zero l = unfold keep in omega (arith, keep-cons s [])
  keep-next (s ∷ ss) (suc v) l = omega (arith, keep-cons s (take (suc v) ss), keep-cons s (take v ss), keep-next ss v (omega arith))

  keep-before : (ss : List Signal) (v : ℕ) → length (keep kind (take v ss)) ≤ length (keep kind ss)
  keep-before [] zero = omega arith
  keep-before [] (suc v) = omega arith
  keep-before (s ∷ ss) zero = unfold keep in omega arith
  keep-before (s ∷ ss) (suc v) = omega (arith, keep-cons s (take v ss), keep-cons s ss, keep-before ss v)

pub inputs-next : (ss : List Signal) (v : ℕ) → v < length ss → inputs (take (suc v) ss) ≡ inputs (take v ss) + (if signal_is_input (nth_signal ss v) then 1 else 0)
unfolding inputs
inputs-next ss v l = keep-next signal_is_input ss v l

pub registers-next : (ss : List Signal) (v : ℕ) → v < length ss
    → registers (take (suc v) ss) ≡ registers (take v ss) + (if signal_is_register (nth_signal ss v) then 1 else 0)
unfolding registers
registers-next ss v l = keep-next signal_is_register ss v l

pub input-place : (ss : List Signal) (v p : ℕ) → v < length ss → nth_signal ss v ≡ input p → inputs (take v ss) < inputs ss
unfolding inputs signal_is_input
input-place ss v p l e = omega (arith, rw e at (keep-next signal_is_input ss v l), keep-before signal_is_input ss (suc v))

-- ## Registers

-- register r of the signals has the initial value b and the source t
abbrev pub RegisterPlace : List Signal → ℕ → Bool → ℕ → Type 0
RegisterPlace ss r b t = (r < registers ss) × (bit (initial ss) r ≡ b) × (get_or (sources ss) r 0 ≡ t)

register-first : (b : Bool) (t : ℕ) (ss : List Signal) → RegisterPlace (register b t ∷ ss) (registers []) b t
unfolding registers keep signal_is_register initial sources
register-first b t ss = (omega arith, refl, refl)

register-cons : (s : Signal) (before ss : List Signal) (b : Bool) (t : ℕ) → RegisterPlace ss (registers before) b t
    → RegisterPlace (s ∷ ss) (registers (s ∷ before)) b t
unfolding registers keep signal_is_register initial sources
register-cons (input p) before ss b t h = h
register-cons (register c u) before ss b t h = let l = h.0 in (omega arith, h.1, h.2)
register-cons (inverter a) before ss b t h = h
register-cons (gate g x y) before ss b t h = h

pub register-place : (ss : List Signal) (v : ℕ) (b : Bool) (t : ℕ) → v < length ss → nth_signal ss v ≡ register b t
    → RegisterPlace ss (registers (take v ss)) b t
register-place [] v b t l e = absurd (omega arith)
register-place (s ∷ ss) zero b t l e = rw e (register-first b t ss)
register-place (s ∷ ss) (suc v) b t l e = register-cons s (take v ss) ss b t (register-place ss v b t (omega arith) e)
