-- The call write: what is answered at each return, and that this determines the call. Assumes nothing.
use mathlib.Core.Path.{◌≡◌, refl, sym, ◌∙◌}
use mathlib.Core.List.{List, ◌++◌}
use Prim.Native.Nat.{ℕ, ◌≤◌, ◌<◌}
use lib.ListN.{length, drop}
use borrow.Author.Tests.{lt-ltb, le-ltb}
use Rattle.std.specs.Prelude.{Result, Ok, Err}
use Rattle.meaning.specs.Sheet as paper
use Rattle.meaning.specs.Answer.{Outcome, silent, refuse, result_after, or_refuse, write_answer}
use Rattle.answer.specs.Meant.{refusal_of, file_of, done_of, answer_of, refused_in}
use Rattle.answer.specs.declared.Refusal.TheVariants.{Out}
use Rattle.answer.specs.declared.File.TheVariants.{A, Nothing}
use Rattle.answer.specs.declared.Fault.{Fault}
use Rattle.answer.specs.declared.Refused.{Refused}
use Rattle.answer.specs.declared.Done.{Done}
use Rattle.answer.specs.declared.Done.TheVariants.{Wrote}
use Rattle.sheet.specs.declared.Sheet.{Sheet}
use Rattle.sheet.specs.Stored.{sheet_of}
use Rattle.sheet.specs.Reading.{Reads}
use Rattle.sheet.specs.Writing.{Called}
use Rattle.sheet.proofs.Files.{reads_refused, reads_good}
use Rattle.answer.proofs.Same.{answer_same}

module _ (file old : List ℕ) where
  pub called_refused : {e : Fault} → Reads file (Err e) → Called (write_answer file (length old)) old old (Err (refused_in e A))
  unfolding write_answer or_refuse refuse silent result_after answer_of file_of
  called_refused q = rw (reads_refused q) (record { answer = refl; result = refl })

  module _ {s : Sheet} (q : Reads file (Ok s)) {n : ℕ} (e : n ≡ length (paper.bytes_of_sheet (sheet_of s))) where
    pub called_out : length old < n → Called (write_answer file (length old)) old old (Err (record { refusal = Out; file = Nothing; at = n }))
    unfolding write_answer or_refuse refuse silent result_after answer_of refusal_of file_of
    called_out h = rw (reads_good q, ← e, lt-ltb _ _ h) (record { answer = refl; result = refl })

    pub called_wrote : n ≤ length old → {new : List ℕ}
        → new ≡ paper.bytes_of_sheet (sheet_of s) ++ drop (length (paper.bytes_of_sheet (sheet_of s))) old
        → Called (write_answer file (length old)) old new (Ok (Wrote n))
    unfolding write_answer or_refuse result_after answer_of done_of
    called_wrote h f = rw (reads_good q, ← e, le-ltb _ _ h) (record { answer = refl; result = f })

-- any two answers of a call, and any two buffers that it leaves, are equal
pub called_same : (o : Outcome) (old : List ℕ) {new other : List ℕ} {r t : Result Done Refused}
    → Called o old new r → Called o old other t → (new ≡ other) × (r ≡ t)
called_same o old {r = r} {t = t} p q = (p.result ∙ sym q.result, answer_same r t (p.answer ∙ sym q.answer))
