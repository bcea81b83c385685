-- Lengths of what a tick computes. Assumes nothing.
use mathlib.Core.Path.{◌≡◌, refl, ap, ◌∙◌}
use mathlib.Core.Bool.{Bool}
use mathlib.Core.List.{List, [], ◌∷◌, ◌++◌, tail}
use Prim.Native.Nat.{ℕ, suc, ◌+◌}
use native.Mathlib.Omega.{arith}
use lib.ListN.{length, length-append, length-map}
use Rattle.meaning.specs.Basic.{bit, keep}
use Rattle.meaning.specs.Sheet.{Signal, input, register, inverter, gate, signal_is_register, registers}
use Rattle.meaning.specs.Tick.{values_from, values, initial, sources, taken}

-- one value more
more : (vs : List Bool) (b : Bool) (n k : ℕ) → k ≡ length (vs ++ (b ∷ [])) + n → k ≡ length vs + suc n
more vs b n k h = omega (arith, h, length-append vs (b ∷ []))

pub length-values_from : (ss : List Signal) (rs xs vs : List Bool) → length (values_from ss rs xs vs) ≡ length vs + length ss
unfolding values_from
length-values_from [] rs xs vs = omega arith
length-values_from (input p ∷ ss) rs xs vs = more vs _ _ _ (length-values_from ss rs (tail xs) _)
length-values_from (register i s ∷ ss) rs xs vs = more vs _ _ _ (length-values_from ss (tail rs) xs _)
length-values_from (inverter a ∷ ss) rs xs vs = more vs _ _ _ (length-values_from ss rs xs _)
length-values_from (gate g a b ∷ ss) rs xs vs = more vs _ _ _ (length-values_from ss rs xs _)

pub length-values : (ss : List Signal) (rs xs : List Bool) → length (values ss rs xs) ≡ length ss
unfolding values
length-values ss rs xs = omega (arith, length-values_from ss rs xs [])

pub length-initial : (ss : List Signal) → length (initial ss) ≡ registers ss
unfolding initial registers keep signal_is_register
length-initial [] = refl
length-initial (input p ∷ ss) = length-initial ss
length-initial (register i s ∷ ss) = ap suc (length-initial ss)
length-initial (inverter a ∷ ss) = length-initial ss
length-initial (gate g a b ∷ ss) = length-initial ss

pub length-sources : (ss : List Signal) → length (sources ss) ≡ registers ss
unfolding sources registers keep signal_is_register
length-sources [] = refl
length-sources (input p ∷ ss) = length-sources ss
length-sources (register i s ∷ ss) = ap suc (length-sources ss)
length-sources (inverter a ∷ ss) = length-sources ss
length-sources (gate g a b ∷ ss) = length-sources ss

pub length_taken : (ss : List Signal) (vs : List Bool) → length (taken ss vs) ≡ registers ss
unfolding taken
length_taken ss vs = length-map (sources ss) (bit vs) ∙ length-sources ss
