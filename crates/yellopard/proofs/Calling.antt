-- What the calls on files say, from what their stages say. Assumes nothing.
use Rattle.std.specs.Prelude.{Result, Ok, Err}
use mathlib.Core.Path.{◌≡◌, refl, sym, ap, ◌∙◌}
use mathlib.Core.List.{List, ◌++◌}
use Prim.Native.Nat.{ℕ, ◌+◌, ◌*◌, ◌≤◌, ◌<◌}
use native.Mathlib.Omega.{arith}
use lib.ListN.{length, get_or, take, drop}
use Rattle.meaning.specs.Numbers.{max_signals, OUT, no_file}
use Rattle.meaning.specs.Sheet.{bytes_of_classes}
use Rattle.meaning.specs.Joint.{total}
use Rattle.meaning.specs.Room.{capacity, cleared}
use Rattle.meaning.specs.Answer.{Outcome, refusal, silent, refuse, result_after, check_answer, refine_verdict, refine_answer}
use Rattle.promises.proofs.Written.{length-bytes_of_classes}
use Rattle.promises.proofs.Refines.{out_of_space}
use Rattle.answer.specs.Meant.{refusal_of, file_of, answer_of}
use Rattle.answer.specs.declared.Refusal.TheVariants.{Out}
use Rattle.answer.specs.declared.File.TheVariants.{Nothing}
use Rattle.answer.specs.declared.Done.{Done}
use Rattle.answer.specs.declared.Done.TheVariants.{Equivalent, Undecided, Wrote}
use Rattle.answer.specs.declared.Refused.{Refused}
use Rattle.diagram.proofs.Empty.{cleared_same}
use Rattle.work.specs.Lists.{left, right, joint}
use Rattle.work.proofs.Front.{zeros, zeros_front}
use Rattle.work.proofs.Joining.{joint_few}
use Rattle.correspond.specs.Verdicts.{Lent, CheckSays, RefineSays, Writes, Below, written_by}
use Rattle.yellopard.specs.declared.files.Files.{Files}
use Rattle.yellopard.specs.Calls.{Prepared, FilesAre, FilesEnd, CheckedFiles, RefinedFiles, Checked, Refined}

-- ## Prepared files

module _ {f : Files} (q : Prepared f) where
  pub prepared_few : f.signals ≤ 2 * max_signals
  prepared_few = omega (arith, q.count, joint_few f.pair q.grouped.alike)

  -- an array has a place for each joint signal
  pub prepared_places : length (take f.signals zeros) ≡ f.signals
  prepared_places = zeros_front _ prepared_few

pub same_lent : {w : List ℕ} → Lent w w
same_lent = record { room = refl; rest = refl }

-- ## Check

module _ {a b p : List ℕ} where
  pub checked_ended : {e : Refused} → FilesEnd a b p e → {w : List ℕ} → CheckedFiles a b p w w (Err e)
  unfolding check_answer silent
  checked_ended s = record { answer = sym (ap (λ (o : Outcome). o.answer) (s.always _)); lent = same_lent }

  pub checked_pair : {f : Files} → FilesAre a b p f → {w u : List ℕ} {r : Result Done Refused} → CheckSays f.pair (take f.signals f.classes) w u r
      → CheckedFiles a b p w u r
  unfolding check_answer silent
  checked_pair s c = record { answer = c.answer ∙ sym (ap (λ (o : Outcome). o.answer) (s.onward _)); lent = c.lent }

-- ## Refine

module _ {a b p : List ℕ} where
  pub refined_ended : {e : Refused} → FilesEnd a b p e → {w old : List ℕ} → RefinedFiles a b p w w old old (Err e)
  unfolding refine_answer silent result_after
  refined_ended s = record { answer = sym (ap (λ (o : Outcome). o.answer) (s.always _)); result = rw (s.always _) refl; lent = same_lent }

  pub refined_out : {f : Files} → FilesAre a b p f → {w old : List ℕ} → length old < 2 * f.signals + 1
      → RefinedFiles a b p w w old old (Err (record { refusal = Out; file = Nothing; at = 2 * f.signals + 1 }))
  unfolding refine_answer refine_verdict refuse silent result_after answer_of refusal_of file_of joint
  refined_out {f} s {w} {old} h =
      let q = s.prepared in
      let few : length old < 2 * total (left f.pair) (right f.pair) + 1 = omega (arith, h, q.count) in
      let out = s.onward (refine_verdict (capacity (length w)) (length old)) ∙ out_of_space _ _ _ q.grouped.some (capacity (length w)) (length old) few in
      record {
        answer = ap (λ (k : ℕ). refusal OUT no_file (2 * k + 1)) q.count ∙ sym (ap (λ (o : Outcome). o.answer) out);
        result = sym (ap (λ (o : Outcome). result_after o old) out);
        lent = same_lent;
      }

written : (done : Done) (g : List ℕ) → Writes (Ok done) → written_by (Ok done) g ≡ bytes_of_classes g
unfolding Writes written_by
written (Equivalent r nodes) g v = refl
written (Undecided why i r nodes) g v = refl
written (Wrote k) g v = absurd v

module _ {a b p : List ℕ} {f : Files} (s : FilesAre a b p f) {w u g : List ℕ} where
  module _ {z : Result Done Refused} (c : RefineSays f.pair (take f.signals f.classes) w u g z) (old : List ℕ) (room : 2 * f.signals + 1 ≤ length old) where
    room_for : 2 * joint f.pair + 1 ≤ length old
    room_for = omega (arith, s.prepared.count, room)

    refined_pair : {new : List ℕ} → new ≡ written_by z g ++ drop (length (written_by z g)) old → RefinedFiles a b p w u old new z
    unfolding refine_answer result_after
    refined_pair q = record {
      answer = c.answer (length old) room_for ∙ sym (ap (λ (o : Outcome). o.answer) (s.onward _));
      result = q ∙ ap (λ (x : List ℕ). x ++ drop (length x) old) (c.written (length old) room_for) ∙ sym (ap (λ (o : Outcome). result_after o old) (s.onward _));
      lent = c.lent;
    }

  -- a refusal writes nothing
  pub refined_refused : {e : Refused} → RefineSays f.pair (take f.signals f.classes) w u g (Err e) → (old : List ℕ) → 2 * f.signals + 1 ≤ length old
      → RefinedFiles a b p w u old old (Err e)
  unfolding written_by
  refined_refused c old room = refined_pair c old room refl

  module _ {done : Done} (c : RefineSays f.pair (take f.signals f.classes) w u g (Ok done)) (old : List ℕ) (room : 2 * f.signals + 1 ≤ length old) where
    -- the class numbers of a verdict are bytes, and there is space for them
    pub verdict_classes : (i : ℕ) → i < length g → get_or g i 0 < 256
    unfolding Below
    verdict_classes i l = let b = c.below (c.verdict refl) i l in omega (arith, b, s.prepared.count, prepared_few s.prepared)

    pub refined_written : {new : List ℕ} → new ≡ bytes_of_classes g ++ drop (2 * length g + 1) old → RefinedFiles a b p w u old new (Ok done)
    refined_written q = refined_pair c old room (rw (written done g (c.verdict refl), length-bytes_of_classes g) q)

-- ## The table comes back zeroed

pub checked : {a b p w u v : List ℕ} {r : Result Done Refused} → CheckedFiles a b p w u r → v ≡ cleared u → Checked a b p w v r
checked {w = w} {u = u} c l = record { answer = c.answer; zeroed = l ∙ cleared_same w u c.lent.room c.lent.rest }

pub refined : {a b p w u v old new : List ℕ} {r : Result Done Refused} → RefinedFiles a b p w u old new r → v ≡ cleared u → Refined a b p w v old new r
refined {w = w} {u = u} c l = record { answer = c.answer; zeroed = l ∙ cleared_same w u c.lent.room c.lent.rest; result = c.result }
