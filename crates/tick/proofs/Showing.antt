-- Laws of an output number: how it is put together, and what holds at every turn of the loop that does it. Assumes nothing.
use Rattle.std.specs.Prelude.{if◌then◌else◌}
use Prim.Native.Nat.{ℕ, ◌+◌, ◌*◌, ◌%◌, ◌^◌, ◌<◌, ◌≤◌}
use mathlib.Core.Path.{◌≡◌, refl, ap, ◌∙◌}
use mathlib.Core.Bool.{Bool, true, false}
use mathlib.Core.List.{List}
use native.Mathlib.Numerals.{add-one}
use native.Mathlib.Omega.{arith}
use lib.Bits.{bit_or, or_shifted_r}
use lib.ListN.{length, get_or, take, length-map, get_or-map}
use lib.Pow.{shl_exact}
use lib.Seq.{take_all, take-suc, length-take-le}
use mir.Val.{bool_byte}
use Rattle.meaning.specs.Numbers.{max_outputs}
use Rattle.meaning.specs.Basic.{bit, from_bits}
use Rattle.meaning.specs.Sheet as paper
use Rattle.meaning.specs.Tick.{shown}
use Rattle.arrayvec.specs.ArrayVec.{array_vec_len}
use Rattle.sheet.specs.declared.Sheet.{Sheet}
use Rattle.sheet.specs.Stored.{output_of, sheet_of, nth_output, Kept}
use Rattle.sheet.proofs.Whole.{length_outputs, output_at}
use Rattle.tick.proofs.Bits.{from_bits_more, from_bits_less}

-- a bit put in above a number by a shift
shifted : (b : Bool) (i : ℕ) → bool_byte b * 2 ^ i ≡ (if b then 2 ^ i else 0)
shifted true i = omega arith
shifted false i = omega arith

byte_bit : (b : Bool) → bool_byte b < 2 ^ 1
byte_bit true = omega arith
byte_bit false = omega arith

pub put_bit : (b : Bool) (number i : ℕ) → i < max_outputs → number < 2 ^ i
    → bit_or number (bool_byte b * 2 ^ i % 2 ^ 16) ≡ number + (if b then 2 ^ i else 0)
put_bit b number i room less =
    rw (shl_exact 1 i 16 (byte_bit b) (omega arith), or_shifted_r (bool_byte b) i number less) (omega (arith, shifted b i))

-- ## The loop over the outputs

-- after i outputs, the number has their bits
pub record Showing (s : Sheet) (vs : List Bool) (number i : ℕ) : Type 0 where
  pub within : i ≤ array_vec_len s.outputs
  pub put : number ≡ from_bits (take i (shown (sheet_of s).outputs vs))

module _ (s : Sheet) (kept : Kept s) (vs : List Bool) where
  length-shown : length (shown (sheet_of s).outputs vs) ≡ array_vec_len s.outputs
  unfolding shown
  length-shown = length-map (sheet_of s).outputs (λ o. bit vs o.signal) ∙ length_outputs s

  shown-at : (i : ℕ) → i < array_vec_len s.outputs
      → get_or (shown (sheet_of s).outputs vs) i (bit vs (nth_output s i).signal) ≡ bit vs (nth_output s i).signal
  unfolding shown output_of
  shown-at i inside =
      let value_at : paper.Output → Bool = λ o. bit vs o.signal in
      get_or-map value_at (sheet_of s).outputs i (output_of (nth_output s i)) ∙ ap value_at (output_at s i (output_of (nth_output s i)) inside)

  pub showing_start : Showing s vs 0 0
  unfolding from_bits
  showing_start = record { within = omega arith; put = refl }

  module _ (number i : ℕ) (turn : Showing s vs number i) where
    taken-length : length (take i (shown (sheet_of s).outputs vs)) ≡ i
    taken-length = length-take-le i (shown (sheet_of s).outputs vs) (omega (arith, length-shown, turn.within))

    -- the next bit has its place, above the number
    pub showing_room : i < length s.outputs.items → (i < max_outputs) × (number < 2 ^ i)
    showing_room inside = (
      omega (arith, length_outputs s, kept.few_outputs),
      rw turn.put (rw taken-length at (from_bits_less (take i (shown (sheet_of s).outputs vs)))),
    )

    pub showing_more : (next : ℕ) → i < length s.outputs.items
        → next ≡ number + (if bit vs (nth_output s i).signal then 2 ^ i else 0) → Showing s vs next (i + 1)
    showing_more next inside is =
        let bits = shown (sheet_of s).outputs vs in
        let b = bit vs (nth_output s i).signal in
        let counted : i < length bits = omega (arith, length-shown) in
        record {
          within = omega (arith, inside);
          put =
              is ∙ rw (turn.put, add-one i, take-suc bits i b counted, shown-at i inside, from_bits_more (take i bits) b, taken-length);
        }

    pub showing_end : length s.outputs.items ≤ i → number ≡ from_bits (shown (sheet_of s).outputs vs)
    showing_end all =
        turn.put ∙ ap from_bits (take_all i (shown (sheet_of s).outputs vs) (omega (arith, length-shown, length_outputs s)))
