-- The reading of a file, record by record: what holds at every turn, and what is found where it ends. Assumes nothing.
use mathlib.Core.Path.{◌≡◌, refl, sym, ap, ◌∙◌}
use mathlib.Core.List.{List, [], ◌∷◌}
use Prim.Native.Nat.{ℕ, zero, suc, ◌+◌, ◌-◌, ◌≤◌, ◌<◌}
use native.Mathlib.Omega.{arith}
use lib.ListN.{length, get_or, take, drop, length-drop, drop_of_length-le}
use lib.Seq.{drop-drop, take_all}
use borrow.Author.Tests.{eq-eqb, ne_eqb}
use Rattle.meaning.specs.Numbers.{OUTPUT, END}
use Rattle.std.specs.Prelude.{Result, Ok, Err, MatchResult, IsErrAnd}
use Rattle.meaning.specs.Sheet as paper
use Rattle.answer.specs.Meant.{refusal_of, read_by}
use Rattle.answer.specs.declared.Refusal.{Refusal}
use Rattle.answer.specs.declared.Refusal.TheVariants.{Short}
use Rattle.answer.specs.declared.Fault.{Fault}
use Rattle.sheet.specs.declared.kind.Kind.{Kind}
use Rattle.sheet.specs.declared.kind.Kind.TheVariants.{Input, Register, Not, And, Or, Xor}
use Rattle.sheet.specs.declared.Signal.{Signal}
use Rattle.sheet.specs.declared.Sheet.{Sheet}
use Rattle.sheet.specs.declared.record.Record.{Record}
use Rattle.sheet.specs.declared.record.Record.TheVariants as says
use Rattle.sheet.specs.declared.record.Record.TheVariants.{End}
use Rattle.sheet.specs.declared.reader.Part.{Part}
use Rattle.sheet.specs.Stored.{number_of_kind}
use Rattle.sheet.specs.Reading.{Reads}
use Rattle.sheet.specs.Record.{number_of_record, second_of, fault_is, kind_of, length_of, Says, CanAdd, Said, Judged}
use Rattle.sheet.specs.Part.{names_of, empty_part, KeptPart, part_is, with_record, Added, Ended}
use Rattle.sheet.proofs.Mapped.{mapped_ok}
use Rattle.sheet.proofs.Added.{part_empty, nothing_yet}

-- ## One record of the paper's reading

-- the bytes that belong to the record before are passed over
read_skip : (rest : List ℕ) (n at : ℕ) (p : paper.Part) → n ≤ length rest → paper.read_from rest n at p ≡ paper.read_from (drop n rest) 0 (at + n) p
unfolding paper.read_from
read_skip rest zero at p h = ap (λ (i : ℕ). paper.read_from rest 0 i p) (omega arith)
read_skip [] (suc n) at p h = absurd (omega arith)
read_skip (x ∷ rest) (suc n) at p h =
    read_skip rest n (suc at) p (omega arith) ∙ ap (λ (i : ℕ). paper.read_from (drop n rest) 0 i p) (omega arith)

module _ (at : ℕ) (p : paper.Part) where
  read_fault : (l : List ℕ) {f : _} → 0 < length l → paper.faulty f ≡ paper.fault_of p (get_or l 0 0) (drop 1 l)
      → paper.read_from l 0 at p ≡ paper.refused f at
  unfolding paper.read_from
  read_fault [] h e = absurd (omega arith)
  read_fault (k ∷ rest) h e = rw (← e, paper.read_from)

  read_end : (l : List ℕ) → 0 < length l → paper.sound ≡ paper.fault_of p (get_or l 0 0) (drop 1 l) → get_or l 0 0 ≡ END
      → paper.read_from l 0 at p ≡ paper.ending p at (drop 1 l)
  unfolding paper.read_from
  read_end [] h e q = absurd (omega arith)
  read_end (k ∷ rest) h e q = rw (← e, eq-eqb k END q, paper.read_from)

  read_more : (l : List ℕ) → 0 < length l → paper.sound ≡ paper.fault_of p (get_or l 0 0) (drop 1 l) → (get_or l 0 0 ≡ END → ⊥)
      → paper.body_of (get_or l 0 0) < length l
      → paper.read_from l 0 at p
      ≡ paper.read_from (drop (suc (paper.body_of (get_or l 0 0))) l) 0 (at + 1 + paper.body_of (get_or l 0 0)) (paper.add p at (get_or l 0 0) (get_or l 1 0) (get_or l 2 0))
  unfolding paper.read_from
  read_more [] h e n b = absurd (omega arith)
  read_more (k ∷ rest) h e n b =
      rw (← e, ne_eqb k END n, paper.read_from)
      (read_skip rest (paper.body_of k) (suc at) (paper.add p at k (get_or rest 0 0) (get_or rest 1 0)) (omega arith)
      ∙ ap (λ (i : ℕ). paper.read_from (drop (paper.body_of k) rest) 0 i (paper.add p at k (get_or rest 0 0) (get_or rest 1 0))) (omega arith))

-- the byte after a body of one does not matter
add_second : (p : paper.Part) (at : ℕ) (k : Kind) (a b : ℕ)
    → paper.add p at (number_of_kind k) a (second_of (number_of_kind k) b) ≡ paper.add p at (number_of_kind k) a b
unfolding paper.add paper.signal_of second_of paper.body_of
add_second p at Input a b = refl
add_second p at Register a b = refl
add_second p at Not a b = refl
add_second p at And a b = refl
add_second p at Or a b = refl
add_second p at Xor a b = refl

-- what the bytes of a record say
byte_of : (rest : List ℕ) (x : Record) → Says rest x → get_or rest 0 0 ≡ number_of_record (kind_of x)
byte_of rest (says.Signal x) h = sym h.0
byte_of rest (says.Output o) h = sym h.0
byte_of rest End h = sym h

no_end : (k : Kind) → number_of_kind k ≡ END → ⊥
no_end Input e = omega arith
no_end Register e = omega arith
no_end Not e = omega arith
no_end And e = omega arith
no_end Or e = omega arith
no_end Xor e = omega arith

end_of : (rest : List ℕ) (x : Record) → Says rest x → get_or rest 0 0 ≡ END → x ≡ End
end_of rest (says.Signal x) h e = absurd (no_end x.kind (h.0 ∙ e))
end_of rest (says.Output o) h e = let q : OUTPUT ≡ END = h.0 ∙ e in absurd (omega arith)
end_of rest End h e = refl

added : (rest : List ℕ) (x : Record) (p : paper.Part) (at : ℕ) → Says rest x → (x ≡ End → ⊥)
    → paper.add p at (get_or rest 0 0) (get_or rest 1 0) (get_or rest 2 0) ≡ with_record p at x
added rest (says.Signal x) p at h n =
    rw (← h.0) (
    sym (add_second p at x.kind (get_or rest 1 0) (get_or rest 2 0))
    ∙ ap (λ (y : Signal). paper.add p at (number_of_kind x.kind) y.a y.b) (sym h.1)
    )
added rest (says.Output o) p at h n = rw (← h.0, h.1, h.2)
added rest End p at h n = absurd (n refl)

-- ## Turns

pub record Turn (file : List ℕ) (p : Part) (at : ℕ) : Type 0 where
  pub kept : KeptPart p
  pub within : at ≤ length file
  pub same : paper.read_from (drop at file) 0 at (part_is p) ≡ paper.reading_of_sheet file

pub turn_start : (file : List ℕ) (p : Part) → p ≡ empty_part → Turn file p 0
unfolding paper.reading_of_sheet
turn_start file p e = rw e (record {
  kept = part_empty;
  within = omega arith;
  same = ap (paper.read_from file 0 0) (sym nothing_yet);
})

faulty_reads : (file : List ℕ) (e : Fault) → paper.refused (refusal_of e.refusal) e.at ≡ paper.reading_of_sheet file → Reads file (Err e)
unfolding read_by
faulty_reads file e q = record { is = q; whole = λ s z. cc }

pub turn_short : (file : List ℕ) (p : Part) (at : ℕ) → Turn file p at → length file ≤ at → Reads file (Err (record { refusal = Short; at = at }))
unfolding paper.read_from refusal_of
turn_short file p at t h =
    faulty_reads file (record { refusal = Short; at = at }) (sym (ap (λ (l : List ℕ). paper.read_from l 0 at (part_is p)) (drop_of_length-le file h)) ∙ t.same)

-- the record at the present offset
pub record Ahead (file : List ℕ) (p : Part) (at : ℕ) (r : Result Record Refusal) : Type 0 where
  pub turn : Turn file p at
  pub inside : at < length file
  pub judged : Judged (drop at file) p.sheet r

-- the part of a file from an offset on is its rest
pub rest_from : (file : List ℕ) (at : ℕ) → take (length file - at) (drop at file) ≡ drop at file
rest_from file at = take_all (length file - at) (drop at file) (omega (arith, length-drop at file))

pub ahead : {file : List ℕ} {p : Part} {at : ℕ} {r : Result Record Refusal} → Turn file p at → at < length file
    → Judged (take (length file - at) (drop at file)) p.sheet r → Ahead file p at r
ahead {file} {p} {at} {r} turn inside judged = record { turn = turn; inside = inside; judged = rw (rest_from file at) at judged }

-- one that is sound, after what the closure makes of a fault
pub ahead_sound : {file : List ℕ} {p : Part} {at : ℕ} {D : Type 0} (P : Refusal → D → Type 0) {r : Result Record Refusal} {s : Result Record D} {x : Record}
    → Turn file p at → at < length file → Judged (take (length file - at) (drop at file)) p.sheet r
    → MatchResult r (λ y. s ≡ Ok y) (λ e. IsErrAnd s (P e)) → s ≡ Ok x → Ahead file p at (Ok x)
ahead_sound P {r} {s} {x} turn inside judged m q = ahead turn inside (rw (mapped_ok P r s x m q) at judged)

module _ {file : List ℕ} {p : Part} {at : ℕ} where
  module _ {r : Result Record Refusal} (h : Ahead file p at r) where
    some : 0 < length (drop at file)
    some = omega (arith, length-drop at file, h.inside)

    judged : fault_is r ≡ paper.fault_of (part_is p) (get_or (drop at file) 0 0) (drop 1 (drop at file))
    unfolding part_is
    judged = h.judged.fault (names_of p)

  pub turn_faulty : {f : Refusal} → Ahead file p at (Err f) → Reads file (Err (record { refusal = f; at = at }))
  unfolding fault_is
  turn_faulty {f} h =
      faulty_reads file (record { refusal = f; at = at }) (sym (read_fault at (part_is p) (drop at file) (some h) (judged h)) ∙ h.turn.same)

  module _ {x : Record} (h : Ahead file p at (Ok x)) where
    said : Said (drop at file) p.sheet x
    said = h.judged.said x refl

    sound : paper.sound ≡ paper.fault_of (part_is p) (get_or (drop at file) 0 0) (drop 1 (drop at file))
    unfolding fault_is
    sound = judged h

    byte_is : get_or (drop at file) 0 0 ≡ number_of_record (kind_of x)
    byte_is = byte_of (drop at file) x said.says

    pub turn_inside : at + length_of x ≤ length file
    turn_inside = omega (arith, rw byte_is at said.whole, length-drop at file)

    pub turn_fits : CanAdd p.sheet x
    turn_fits = said.fits

    -- a record that is added
    pub turn_more : {q : Part} {m : ℕ} → (x ≡ End → ⊥) → Added p at x q → m ≡ length_of x → Turn file q (at + m)
    turn_more n w e =
        let step = read_more at (part_is p) (drop at file) (some h) sound (λ q. n (end_of (drop at file) x said.says q)) said.whole in
        let place : at + suc (paper.body_of (number_of_record (kind_of x))) ≡ at + length_of x = omega arith in
        let place' : at + 1 + paper.body_of (number_of_record (kind_of x)) ≡ at + length_of x = omega arith in
        rw e (record {
          kept = w.kept;
          within = turn_inside;
          same = rw w.is (sym (rw (added (drop at file) x (part_is p) at said.says n, byte_is, drop-drop, place, place') at step) ∙ h.turn.same);
        })

  module _ (h : Ahead file p at (Ok End)) where
    pub turn_ended : {d : Result Sheet Fault} → Ended p at (length file) d → Reads file d
    turn_ended n = record {
      is =
          n.is (drop 1 (drop at file)) (omega (arith, length-drop 1 (drop at file), length-drop at file, h.inside))
          ∙ sym (read_end at (part_is p) (drop at file) (some h) (sound h) (sym (said h).says))
          ∙ h.turn.same;
      whole = n.whole;
    }
