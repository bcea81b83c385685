-- Laws of what a run answers, and when: sheet, OUT, VECTOR. Assumes nothing.
use Rattle.std.specs.Prelude.{Ok, Err}
use Prim.Native.Nat.{ℕ, suc, ◌<◌, ◌≤◌}
use mathlib.Core.Path.{◌≡◌, refl, sym, ap, ◌∙◌}
use mathlib.Core.Bool.{Bool}
use mathlib.Core.List.{List, [], ◌∷◌, ◌++◌, map}
use borrow.Author.Tests.{lt-ltb, le-ltb}
use lib.ListN.{length, drop, length-map}
use Rattle.meaning.specs.Basic.{bits_of, from_bits}
use Rattle.meaning.specs.Sheet.{Sheet, value, inputs, reading_of_sheet}
use Rattle.meaning.specs.Tick.{outputs_from, outputs_of, taken, values}
use Rattle.meaning.specs.Answer.{refuse, silent, result_after, or_refuse, bad_vector_place, run_answer}
use Rattle.answer.specs.declared.Fault.{Fault}
use Rattle.answer.specs.declared.Refusal.TheVariants.{Out, Vector}
use Rattle.answer.specs.declared.File.TheVariants.{A, Nothing}
use Rattle.answer.specs.declared.Done.TheVariants.{Wrote}
use Rattle.answer.specs.Meant.{refusal_of, file_of, done_of, answer_of, read_by, refused_in}
use Rattle.sheet.specs.declared.Sheet as stored
use Rattle.sheet.specs.Stored.{sheet_of}
use Rattle.sheet.specs.Reading.{Reads}
use Rattle.tick.specs.Tick.{numbers_of, Ran}

-- a number for each vector
length_outputs : (s : Sheet) (rs : List Bool) (xs : List (List Bool)) → length (outputs_from s rs xs) ≡ length xs
unfolding outputs_from
length_outputs s rs [] = refl
length_outputs s rs (x ∷ xs) = ap suc (length_outputs s (taken s.signals (values s.signals rs x)) xs)

length-numbers : (s : Sheet) (vectors : List ℕ) → length (numbers_of s vectors) ≡ length vectors
unfolding numbers_of outputs_of
length-numbers s vectors =
    length-map (outputs_of s (map (bits_of (inputs s.signals)) vectors)) from_bits ∙ length_outputs s _ (map (bits_of (inputs s.signals)) vectors)
    ∙ length-map vectors (bits_of (inputs s.signals))

-- ## The answers

module _ (file vectors old : List ℕ) where
  pub ran-refused : (e : Fault) → Reads file (Err e) → Ran file vectors old (Err (refused_in e A)) old
  unfolding read_by run_answer or_refuse refuse silent result_after answer_of file_of
  ran-refused e reads = record { answer = rw (← reads.is); result = rw (← reads.is) }

  module _ (s : stored.Sheet) (reads : Reads file (Ok s)) where
    read : value (sheet_of s) ≡ reading_of_sheet file
    unfolding read_by
    read = reads.is

    pub ran_out : length old < length vectors → Ran file vectors old (Err (record { refusal = Out; file = Nothing; at = length vectors })) old
    unfolding run_answer or_refuse refuse silent result_after answer_of refusal_of file_of
    ran_out short = record {
      answer = rw (← read, lt-ltb (length old) (length vectors) short);
      result = rw (← read, lt-ltb (length old) (length vectors) short);
    }

    module _ (room : length vectors ≤ length old) where
      counted : s.inputs ≡ inputs (sheet_of s).signals
      counted = (reads.whole s refl).kept.inputs

      pub ran_vector : (bad : ℕ) → bad ≡ bad_vector_place s.inputs 0 vectors → bad < length vectors
          → Ran file vectors old (Err (record { refusal = Vector; file = Nothing; at = bad })) old
      unfolding run_answer or_refuse refuse silent result_after answer_of refusal_of file_of
      ran_vector bad is early = record {
        answer = rw (← read, le-ltb (length old) (length vectors) room, ← counted, ← is, lt-ltb bad (length vectors) early);
        result = rw (← read, le-ltb (length old) (length vectors) room, ← counted, ← is, lt-ltb bad (length vectors) early);
      }

      pub ran-wrote : (new : List ℕ) → length vectors ≤ bad_vector_place s.inputs 0 vectors → new ≡ numbers_of (sheet_of s) vectors ++ drop (length vectors) old
          → Ran file vectors old (Ok (Wrote (length vectors))) new
      unfolding run_answer or_refuse refuse silent result_after answer_of done_of numbers_of
      ran-wrote new none written = record {
        answer = rw (← read, le-ltb (length old) (length vectors) room, ← counted, le-ltb _ (length vectors) none);
        result =
            written ∙ ap (λ (k : ℕ). numbers_of (sheet_of s) vectors ++ drop k old) (sym (length-numbers (sheet_of s) vectors))
            ∙ rw (← read, le-ltb (length old) (length vectors) room, ← counted, le-ltb _ (length vectors) none);
      }
