-- The length that a sheet takes: what the records of its signals take, its outputs, and END. Assumes nothing.
use mathlib.Core.Path.{◌≡◌, refl}
use mathlib.Core.List.{List, [], ◌∷◌, map}
use Prim.Native.Nat.{ℕ, ◌+◌, ◌*◌, ◌≤◌}
use native.Mathlib.Omega.{arith}
use lib.ListN.{length, length-append}
use Rattle.std.specs.Prelude.{sum_by}
use Rattle.std.proofs.lemmas.List.Sums.{sum_by-cons}
use Rattle.arrayvec.specs.ArrayVec.{array_vec_len}
use Rattle.meaning.specs.Numbers.{max_signals}
use Rattle.meaning.specs.Basic.{concat_map}
use Rattle.meaning.specs.Sheet as paper
use Rattle.sheet.specs.declared.Signal.{Signal}
use Rattle.sheet.specs.declared.Sheet.{Sheet}
use Rattle.sheet.specs.Stored.{number_of_kind, signal_of, sheet_of, Kept}
use Rattle.sheet.proofs.Whole.{length_signals, length_outputs}
use Rattle.sheet.proofs.Bytes.{signal_length, signals_three, outputs_three, sheet_length}

-- how many bytes a signal's record takes
abbrev pub takes : Signal → ℕ
takes x = 1 + paper.body_of (number_of_kind x.kind)

signals_take : (xs : List Signal) → sum_by takes xs ≡ length (concat_map paper.bytes_of_signal (map signal_of xs))
unfolding concat_map
signals_take [] = refl
signals_take (x ∷ xs) =
    omega (
      arith,
      sum_by-cons takes x xs,
      signal_length x,
      signals_take xs,
      length-append (paper.bytes_of_signal (signal_of x)) (concat_map paper.bytes_of_signal (map signal_of xs)),
    )

module _ (s : Sheet) {n : ℕ} (e : n ≡ sum_by takes s.signals.items) where
  signals_is : n ≡ length (concat_map paper.bytes_of_signal (sheet_of s).signals)
  unfolding sheet_of
  signals_is = rw e (signals_take s.signals.items)

  pub sized_few : Kept s → n ≤ 3 * max_signals
  sized_few w = omega (arith, signals_is, signals_three (sheet_of s).signals, length_signals s, w.few_signals)

  pub sized : 3 * array_vec_len s.outputs + 1 + n ≡ length (paper.bytes_of_sheet (sheet_of s))
  sized = omega (arith, signals_is, sheet_length (sheet_of s), outputs_three (sheet_of s).outputs, length_outputs s)
