-- Laws of the outputs: where they are in the joint list, and when they are paired. Assumes nothing.
use Rattle.std.specs.Prelude.{Option, MatchOption, Ok, if◌then◌else◌}
use Rattle.std.specs.List.{find, range_with_len}
use Rattle.std.specs.Option.{option_map}
use mathlib.Core.Path.{◌≡◌, refl, ap, ◌∙◌}
use mathlib.Core.Bool.{Bool, true, false, not, ◌&&◌, beq}
use mathlib.Core.List.{List, map}
use Prim.Native.Nat.{ℕ, ◌+◌, ◌*◌, ◌≤◌, ◌<◌}
use native.Mathlib.Omega.{arith}
use lib.ListN.{length, get_or, take, get_or-map}
use lib.Dec.{eqb}
use borrow.Author.Tests.{lt-ltb, le-ltb, eq-eqb, ne_eqb}
use Rattle.arrayvec.specs.ArrayVec.{array_vec_len}
use Rattle.meaning.specs.Numbers.{max_signals}
use Rattle.meaning.specs.Sheet as paper
use Rattle.meaning.specs.Joint.{class, total, outA, outB, paired, output_fault}
use Rattle.meaning.specs.Answer.{outputs_verdict}
use Rattle.groups.proofs.Least.{found_least}
use Rattle.sheet.specs.declared.Sheet.{Sheet}
use Rattle.sheet.specs.Stored.{sheet_of, output_of, nth_output}
use Rattle.sheet.proofs.Whole.{length_signals, length_outputs, output_at}
use Rattle.answer.specs.declared.Done.TheVariants.{Equivalent, Undecided}
use Rattle.answer.specs.declared.Reason.TheVariants.{Outputs}
use Rattle.answer.specs.Meant.{reason_of, done_of, answer_of}
use Rattle.work.specs.declared.Pair.{Pair}
use Rattle.work.specs.Lists.{left, right, joint}
use Rattle.work.proofs.Front.{zeros, zeros_front}
use Rattle.work.proofs.Joining.{joint_few}
use Rattle.correspond.specs.Verdicts.{Grouped}

-- ## Of a pair

signal_at : (s : Sheet) (i : ℕ) → i < array_vec_len s.outputs → get_or (map (λ o. o.signal) (sheet_of s).outputs) i 0 ≡ (nth_output s i).signal
unfolding output_of
signal_at s i l =
    get_or-map (λ (o : paper.Output). o.signal) (sheet_of s).outputs i (record { pin = 0; signal = 0 }) ∙ ap (λ (o : paper.Output). o.signal) (output_at s i _ l)

-- equal polarities have equal bytes
same_bytes : (x y : Bool) → eqb (if x then 1 else 0) (if y then 1 else 0) ≡ beq x y
same_bytes true true = refl
same_bytes true false = refl
same_bytes false true = refl
same_bytes false false = refl

module _ {p : Pair} {g : List ℕ} (ok : Grouped p g) where
  size : length g ≡ array_vec_len p.a.signals + array_vec_len p.b.signals
  unfolding joint left right total
  size = omega (arith, ok.size, length_signals p.a, length_signals p.b)

  -- the signals that an output names, as joint numbers
  module _ (i : ℕ) (l : i < array_vec_len p.a.outputs) where
    pub in_a : (nth_output p.a i).signal < length g
    in_a = omega (arith, ok.alike.whole_a.shown i l, size)

    pub in_b : array_vec_len p.a.signals + (nth_output p.b i).signal < length g
    in_b = omega (arith, ok.alike.whole_b.shown i (omega (arith, ok.outputs)), size)

    module _ (x y : ℕ) (x-is : x ≡ (nth_output p.a i).signal) (y-is : y ≡ (nth_output p.b i).signal) where
      paired_by : paired (left p) (right p) g i
          ≡ (eqb (get_or g x 0) (get_or g (array_vec_len p.a.signals + y) 0) && eqb (get_or p.plain x 0) (get_or p.plain (array_vec_len p.a.signals + y) 0))
      unfolding paired class outA outB left right
      paired_by =
          let one = signal_at p.a i l in
          let other = signal_at p.b i (omega (arith, ok.outputs)) in
          let n = length_signals p.a in
          let plain-a = ok.alike.plain x (omega (arith, x-is, in_a, ok.size)) in
          let plain-b = ok.alike.plain (array_vec_len p.a.signals + y) (omega (arith, y-is, in_b, ok.size)) in
          rw (one, other, n, ← x-is, ← y-is, plain-a, plain-b, same_bytes) refl

      pub paired_plain : get_or g x 0 ≡ get_or g (array_vec_len p.a.signals + y) 0
          → eqb (get_or p.plain x 0) (get_or p.plain (array_vec_len p.a.signals + y) 0) ≡ paired (left p) (right p) g i
      paired_plain e = rw (paired_by, eq-eqb _ _ e) refl

      pub not_paired : (get_or g x 0 ≡ get_or g (array_vec_len p.a.signals + y) 0 → ⊥) → eqb (get_or g x 0) (get_or g (array_vec_len p.a.signals + y) 0) ≡ paired (left p) (right p) g i
      not_paired n = rw (paired_by, ne_eqb _ _ n) refl

  pub fault_first : (r : Option ℕ) → option_map (λ x. x) r ≡ find (λ i. not (paired (left p) (right p) g i)) (range_with_len 0 (array_vec_len p.a.outputs))
      → MatchOption r (output_fault (left p) (right p) g ≡ array_vec_len p.a.outputs) (λ i. (i ≡ output_fault (left p) (right p) g) × (i < array_vec_len p.a.outputs))
  unfolding output_fault left
  fault_first r is = rw (length_outputs p.a) (found_least (array_vec_len p.a.outputs) _ r is)

  pub outputs_unpaired : (i r nodes : ℕ) → i ≡ output_fault (left p) (right p) g → i < array_vec_len p.a.outputs
      → answer_of (Ok (Undecided Outputs i r nodes)) ≡ outputs_verdict (left p) (right p) g r nodes
  unfolding outputs_verdict answer_of done_of reason_of
  outputs_unpaired i r nodes is l =
      let n : length (left p).outputs ≡ array_vec_len p.a.outputs = unfold left in length_outputs p.a in
      rw (← is, n, lt-ltb i (array_vec_len p.a.outputs) l)

  pub outputs_paired : (r nodes : ℕ) → output_fault (left p) (right p) g ≡ array_vec_len p.a.outputs
      → answer_of (Ok (Equivalent r nodes)) ≡ outputs_verdict (left p) (right p) g r nodes
  unfolding outputs_verdict answer_of done_of
  outputs_paired r nodes is =
      let n : length (left p).outputs ≡ array_vec_len p.a.outputs = unfold left in length_outputs p.a in
      rw (is, n, le-ltb (array_vec_len p.a.outputs) (array_vec_len p.a.outputs) (omega arith))

  -- an array with a place for each joint signal has one for each of the n
  pub few_signals : length g ≤ 2 * max_signals
  few_signals = omega (arith, ok.size, joint_few p ok.alike)

  pub places : length (take (length g) zeros) ≡ length g
  places = zeros_front _ few_signals

  pub joint_places : length (take (length g) zeros) ≡ joint p
  joint_places = places ∙ ok.size

-- what a slice of an array asks that has a place for each joint signal
pub ruleset enough_places = (few_signals, places, joint_places)
