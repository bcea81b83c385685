-- Laws of the bits of a vector and of an output number. Assumes nothing.
use Rattle.std.specs.Prelude.{if◌then◌else◌}
use Prim.Native.Nat.{ℕ, zero, suc, ◌+◌, ◌*◌, ◌/◌, ◌%◌, ◌^◌, ◌<◌, ◌≤◌}
use mathlib.Core.Path.{◌≡◌, refl, sym, ap, ◌∙◌}
use mathlib.Core.Bool.{Bool, true, false}
use mathlib.Core.List.{List, [], ◌∷◌, ◌++◌}
use native.Mathlib.Nat.{div-one, pow-succ'}
use native.Mathlib.Numerals.{add-one, one-add}
use native.Mathlib.Omega.{arith}
use lib.Bits.{bit_and, and_mask}
use lib.Dec.{eqb}
use lib.ListN.{length, get_or-eq_default}
use lib.Pow.{shr-shr, shr_lt}
use Rattle.meaning.specs.Basic.{bit, bits_of, from_bits}

-- ## A vector's

pub length_bits : (k v : ℕ) → length (bits_of k v) ≡ k
unfolding bits_of
length_bits zero v = refl
length_bits (suc k) v = ap suc (length_bits k (v / 2))

-- bit i of a vector, by a shift and a mask
bit_shifted : (k v i : ℕ) → i < k → bit (bits_of k v) i ≡ eqb (v / 2 ^ i % 2) 1
unfolding bits_of
bit_shifted zero v i inside = absurd (omega arith)
bit_shifted (suc k) v zero inside = rw (div-one v)
bit_shifted (suc k) v (suc i) inside = bit_shifted k (v / 2) i (omega arith) ∙ ap (λ (n : ℕ). eqb (n % 2) 1) (shr-shr v 1 i) ∙ rw one-add

pub bit_masked : (k v i : ℕ) → i < k → eqb (bit_and (v / 2 ^ i) 1) 1 ≡ bit (bits_of k v) i
bit_masked k v i inside = rw (and_mask (v / 2 ^ i) 1) (sym (bit_shifted k v i inside))

pub bit_beyond : (k v i : ℕ) → k ≤ i → bit (bits_of k v) i ≡ false
bit_beyond k v i past = let out : length (bits_of k v) ≤ i = omega (arith, length_bits k v) in get_or-eq_default (bits_of k v) false out

pub bit_none : (k i : ℕ) → bit (bits_of k 0) i ≡ false
unfolding bits_of
bit_none zero i = refl
bit_none (suc k) zero = refl
bit_none (suc k) (suc i) = bit_none k i

-- a vector with no bit beyond k inputs has no more bits at n places
pub bits_within : (k n v : ℕ) → k ≤ n → v < 2 ^ k → (i : ℕ) → bit (bits_of n v) i ≡ bit (bits_of k v) i
unfolding bits_of
bits_within zero n v few less i = let none : v ≡ 0 = omega arith in rw none (bit_none n i)
bits_within (suc k) zero v few less i = absurd (omega arith)
bits_within (suc k) (suc n) v few less zero = refl
bits_within (suc k) (suc n) v few less (suc i) = bits_within k n (v / 2) (omega arith) (shr_lt k 1 (rw add-one less)) i

-- ## An output number's

pub from_bits_more : (bs : List Bool) (b : Bool) → from_bits (bs ++ (b ∷ [])) ≡ from_bits bs + (if b then 2 ^ length bs else 0)
unfolding from_bits
from_bits_more [] true = refl
from_bits_more [] false = refl
from_bits_more (c ∷ bs) true = rw (from_bits_more bs true, pow-succ' 2 (length bs)) (omega arith)
from_bits_more (c ∷ bs) false = rw (from_bits_more bs false) (omega arith)

from_bits-step : (c : Bool) (n m : ℕ) → n < m → (if c then 1 else 0) + 2 * n < 2 * m
from_bits-step true n m less = omega arith
from_bits-step false n m less = omega arith

pub from_bits_less : (bs : List Bool) → from_bits bs < 2 ^ length bs
unfolding from_bits
from_bits_less [] = omega arith
from_bits_less (c ∷ bs) = rw (pow-succ' 2 (length bs)) (from_bits-step c (from_bits bs) (2 ^ length bs) (from_bits_less bs))
