-- The loops of put_sheet: a whole sheet is put, signals, outputs and END. Assumes nothing.
use mathlib.Core.Path.{◌≡◌, refl, ◌∙◌}
use mathlib.Core.List.{List, [], ◌∷◌, ◌++◌}
use Prim.Native.Nat.{ℕ, ◌+◌, ◌≤◌, ◌<◌}
use native.Mathlib.Nat.{zero-add}
use native.Mathlib.Omega.{arith}
use lib.ListN.{length, get_or, drop, set}
use lib.Seq.{sets-eq}
use Rattle.arrayvec.specs.ArrayVec.{array_vec_len}
use Rattle.meaning.specs.Numbers.{OUTPUT, END}
use Rattle.meaning.specs.Basic.{concat_map}
use Rattle.meaning.specs.Sheet as paper
use Rattle.sheet.specs.declared.Signal.{Signal}
use Rattle.sheet.specs.declared.Output.{Output}
use Rattle.sheet.specs.declared.Sheet.{Sheet}
use Rattle.sheet.specs.Stored.{signal_of, output_of, sheet_of, no_signal, no_output, nth_signal, nth_output, Whole}
use Rattle.sheet.specs.Writing.{bytes_of_record, Put}
use Rattle.sheet.proofs.Whole.{length_signals, length_outputs}
use Rattle.sheet.proofs.Bytes.{signal_here, output_here, sheet_length}
use Rattle.sheet.proofs.Puts.{Puts, puts_more, puts_room, puts_end, put_append, put_length}

module _ (s : Sheet) (old : List ℕ) (r : Whole s × (length (paper.bytes_of_sheet (sheet_of s)) ≤ length old)) where
  -- ## Signals

  module _ {i : ℕ} {new : List ℕ} {at : ℕ} (p : Puts paper.bytes_of_signal (sheet_of s).signals old 0 i new at) where
    module _ (h : i < array_vec_len s.signals) where
      abbrev x : Signal
      x = nth_signal s i

      signal_place : i < length (sheet_of s).signals
      signal_place = omega (arith, length_signals s)

      signal_record : bytes_of_record x ≡ paper.bytes_of_signal (get_or (sheet_of s).signals i (signal_of no_signal))
      signal_record = signal_here s r.0.kept i h

      pub signal_room : at + length (bytes_of_record x) ≤ length new
      signal_room = puts_room p (signal_of no_signal) signal_place signal_record (omega (arith, r.1, sheet_length (sheet_of s)))

      pub signal_more : {newer : List ℕ} {next : ℕ} → Put new at (bytes_of_record x) newer next
          → Puts paper.bytes_of_signal (sheet_of s).signals old 0 (i + 1) newer next
      signal_more = puts_more p (signal_of no_signal) signal_place signal_record

    pub signals_end : array_vec_len s.signals ≤ i → Put old 0 (concat_map paper.bytes_of_signal (sheet_of s).signals) new at
    signals_end h = puts_end p (omega (arith, length_signals s))

  -- ## Outputs

  module _ {mid : List ℕ} {start : ℕ} (q : Put old 0 (concat_map paper.bytes_of_signal (sheet_of s).signals) mid start)
      {i : ℕ} {new : List ℕ} {at : ℕ} (p : Puts paper.bytes_of_output (sheet_of s).outputs mid start i new at) where
    module _ (h : i < array_vec_len s.outputs) where
      abbrev o : Output
      o = nth_output s i

      output_place : i < length (sheet_of s).outputs
      output_place = omega (arith, length_outputs s)

      output_record : OUTPUT ∷ o.pin ∷ o.signal ∷ [] ≡ paper.bytes_of_output (get_or (sheet_of s).outputs i (output_of no_output))
      output_record = output_here s r.0.kept i h

      pub output_room : at + 3 ≤ length new
      output_room =
          puts_room p (output_of no_output) output_place output_record (omega (arith, r.1, sheet_length (sheet_of s), q.after, put_length q))

      pub output_more : {newer : List ℕ} {next : ℕ} → Put new at (OUTPUT ∷ o.pin ∷ o.signal ∷ []) newer next
          → Puts paper.bytes_of_output (sheet_of s).outputs mid start (i + 1) newer next
      output_more = puts_more p (output_of no_output) output_place output_record

    -- ## END

    module _ (h : array_vec_len s.outputs ≤ i) where
      outputs_end : Put mid start (concat_map paper.bytes_of_output (sheet_of s).outputs) new at
      outputs_end = puts_end p (omega (arith, length_outputs s))

      new_length : length new ≡ length old
      new_length = put_length outputs_end ∙ put_length q

      pub end_room : at < length new
      end_room = omega (arith, r.1, sheet_length (sheet_of s), q.after, outputs_end.after, new_length)

      put_end : Put old 0 (paper.bytes_of_sheet (sheet_of s)) (set new at END) (at + 1)
      unfolding paper.bytes_of_sheet
      put_end = put_append q (put_append outputs_end (record { result = refl; after = refl }))

      pub sheet_put : set new at END ≡ paper.bytes_of_sheet (sheet_of s) ++ drop (length (paper.bytes_of_sheet (sheet_of s))) old
      sheet_put = put_end.result ∙ sets-eq (paper.bytes_of_sheet (sheet_of s)) old 0 (omega (arith, r.1)) ∙ rw zero-add
