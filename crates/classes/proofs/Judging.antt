-- What each record of a grouping's file says of its reading, and what holds at every turn of the loop over the records.
-- Assumes nothing.
use Rattle.std.specs.Prelude.{Ok, Err, Some}
use Rattle.std.specs.Iterator.Adapters.{enumerate_count, enumerate_source, enumerate_steps}
use Rattle.std.specs.Slice.Iter.{chunks_rest, chunks_size, chunks_steps}
use Rattle.std.specs.declared.iter.Enumerate.{Enumerate}
use Rattle.std.specs.declared.slice.Chunks.{Chunks}
use Rattle.std.proofs.Common.{Bor}
use Rattle.std.proofs.Math.Seq.{drop-append_seam}
use Prim.Native.Nat.{ℕ, zero, suc, ◌+◌, ◌*◌, ◌-◌, ◌<◌, ◌≤◌, min}
use mathlib.Core.Path.{◌≡◌, refl, sym, ap, ◌∙◌}
use mathlib.Core.List.{List, ◌++◌}
use native.Mathlib.Omega.{arith}
use native.Mathlib.Numerals.{add-one}
use lib.ListN.{length, get_or, drop, get_or-append, length-append, length-drop}
use lib.Seq.{drop-drop, get_or-drop}
use Rattle.answer.specs.declared.Fault.{Fault}
use Rattle.answer.specs.declared.Refusal.TheVariants.{Short, Kind, After, Count}
use Rattle.answer.specs.Meant.{refusal_of, read_by}
use Rattle.meaning.specs.Numbers.{CLASS, END}
use Rattle.meaning.specs.Sheet.{Read, refused, value, read_classes_from, reading_of_classes}
use Rattle.classes.specs.Grouping.{classes_in, Judged, classes_after, Grouped}
use Rattle.classes.proofs.Records.{nothing_left, class_cut, class-whole, unknown, end_after, end_count, end_whole}

pub classes-length : (file : List ℕ) (i : ℕ) → length (classes_in file i) ≡ i
unfolding classes_in
classes-length file zero = refl
classes-length file (suc i) = simp (length-append, classes-length file i) (omega arith)

-- ## The loop over the records

-- After as many CLASS records as the iterator has counted, what it has left of the file decides.
pub record Judging (n : ℕ) (file : List ℕ) (s : Enumerate (Chunks ℕ)) : Type 0 where
  pub size : chunks_size (enumerate_source s) ≡ 2
  pub within : 2 * enumerate_count s ≤ length file
  pub rest : chunks_rest (enumerate_source s) ≡ drop (2 * enumerate_count s) file
  pub left : reading_of_classes n file
      ≡ read_classes_from n (chunks_rest (enumerate_source s)) (2 * enumerate_count s) (classes_in file (enumerate_count s))

module _ (n : ℕ) (file : List ℕ) where
  pub judging_start : (s : Enumerate (Chunks ℕ)) → chunks_size (enumerate_source s) ≡ 2 → chunks_rest (enumerate_source s) ≡ file → enumerate_count s ≡ 0
      → Judging n file s
  unfolding reading_of_classes classes_in
  judging_start s size rest none = record {
    size = size;
    within = omega arith;
    rest = rw none rest;
    left = rw (none, rest);
  }

  module _ (s : Enumerate (Chunks ℕ)) (turn : Judging n file s) where
    abbrev rest : List ℕ
    rest = chunks_rest (enumerate_source s)

    abbrev count : ℕ
    count = enumerate_count s

    rest_long : length rest ≡ length file - 2 * count
    rest_long = ap length turn.rest ∙ length-drop (2 * count) file

    fault : (e : Fault) → refused (refusal_of e.refusal) e.at ≡ read_classes_from n rest (2 * count) (classes_in file count) → Judged n file (Err e)
    unfolding read_by
    fault e is = record { reads = is ∙ sym turn.left; room = λ same. absurd (cc) }

    pub judged_end : length rest ≡ 0 → Judged n file (Err (record { refusal = Short; at = length file }))
    unfolding refusal_of
    judged_end none =
        let all : length file ≡ 2 * count = omega (arith, rest_long, turn.within) in
        rw all (fault (record { refusal = Short; at = 2 * count }) (nothing_left n (2 * count) (classes_in file count) rest none))

    -- a record, as the loop takes it
    module _ (here : ℕ) (chunk : Bor (List ℕ)) (t : Enumerate (Chunks ℕ)) (steps : enumerate_steps chunks_steps s (Some (here, chunk)) t) where
      counted : here ≡ count
      counted = steps.1

      parts : rest ≡ chunk.now ++ chunks_rest (enumerate_source t)
      parts = steps.0.1.0

      long : length chunk.now ≡ min 2 (length rest)
      long = rw turn.size at steps.0.1.1

      some : 0 < length rest
      some = steps.0.1.2

      first : get_or rest 0 0 ≡ get_or chunk.now 0 0
      first = ap (λ (l : List ℕ). get_or l 0 0) parts ∙ get_or-append chunk.now (chunks_rest (enumerate_source t)) 0 0 (omega (arith, long, some))

      pub judged_short : length chunk.now < 2 → get_or chunk.now 0 0 ≡ CLASS → Judged n file (Err (record { refusal = Short; at = 2 * here }))
      unfolding refusal_of
      judged_short short class =
          rw counted (fault _ (class_cut n (2 * count) (classes_in file count) rest (omega (arith, long, some)) (first ∙ class)))

      pub judged_after : 2 ≤ length chunk.now → get_or chunk.now 0 0 ≡ END → Judged n file (Err (record { refusal = After; at = 2 * here + 1 }))
      unfolding refusal_of
      judged_after two end =
          rw counted (fault _ (end_after n (2 * count) (classes_in file count) rest (omega (arith, long)) (first ∙ end)))

      pub judged_count : length chunk.now < 2 → get_or chunk.now 0 0 ≡ END → (here ≡ n → ⊥) → Judged n file (Err (record { refusal = Count; at = 2 * here }))
      unfolding refusal_of
      judged_count short end unlike =
          rw counted (fault _ (end_count n (2 * count) (classes_in file count) rest (omega (arith, long, some)) (first ∙ end)
          (λ same. unlike (counted ∙ sym (classes-length file count) ∙ same))))

      pub judged_kind : (get_or chunk.now 0 0 ≡ CLASS → ⊥) → (get_or chunk.now 0 0 ≡ END → ⊥) → Judged n file (Err (record { refusal = Kind; at = 2 * here }))
      unfolding refusal_of
      judged_kind no_class no_end =
          rw counted (fault _ (unknown n (2 * count) (classes_in file count) rest some (λ e. no_class (sym first ∙ e)) (λ e. no_end (sym first ∙ e))))

      pub judged_good : length chunk.now < 2 → get_or chunk.now 0 0 ≡ END → here ≡ n → Judged n file (Ok tt)
      unfolding read_by
      judged_good short end like =
          let same : count ≡ n = sym counted ∙ like in
          record {
            reads =
                ap (λ (i : ℕ). value (classes_in file i)) (sym same)
                ∙ end_whole n (2 * count) (classes_in file count) rest (omega (arith, long, some)) (first ∙ end) (classes-length file count ∙ same)
                ∙ sym turn.left;
            room = λ e. omega (arith, rest_long, some, same);
          }

      pub judging_class : 2 ≤ length chunk.now → get_or chunk.now 0 0 ≡ CLASS → Judging n file t
      unfolding classes_in
      judging_class two class =
          let both : length chunk.now ≡ 2 = omega (arith, long) in
          let later : chunks_rest (enumerate_source t) ≡ drop 2 rest = rw (parts, ← both, drop-append_seam) in
          let second : get_or rest 1 0 ≡ get_or file (2 * count + 1) 0 = ap (λ (l : List ℕ). get_or l 1 0) turn.rest ∙ get_or-drop (2 * count) file 1 0 in
          let more : enumerate_count t ≡ count + 1 = steps.2 in
          let place : 2 * (count + 1) ≡ 2 * count + 2 = omega arith in
          record {
            size = steps.0.0 ∙ turn.size;
            within = omega (arith, rest_long, long, more);
            rest = later ∙ ap (drop 2) turn.rest ∙ rw (more, place, drop-drop);
            left =
                turn.left ∙ class-whole n (2 * count) (classes_in file count) rest (omega (arith, long)) (first ∙ class)
                ∙ rw (second, ← later, more, place, add-one count);
          }

-- ## What is read, once the file is judged

module _ (file old : List ℕ) where
  pub grouped_good : (new : List ℕ) → Judged (length old) file (Ok tt) → new ≡ classes_in file (length old) → Grouped file old (Ok tt) new
  unfolding read_by classes_after
  grouped_good new judged is =
      let says : value new ≡ reading_of_classes (length old) file = rw is judged.reads in
      record { reading = says; classes = ap (λ (o : Read (List ℕ)). classes_after o old) says }

  pub grouped_fault : (e : Fault) → Judged (length old) file (Err e) → Grouped file old (Err e) old
  unfolding read_by classes_after
  grouped_fault e judged = record { reading = judged.reads; classes = ap (λ (o : Read (List ℕ)). classes_after o old) judged.reads }
