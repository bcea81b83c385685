-- A sheet file is refused, and accepted, exactly under the conditions of specs/Reading. Assumes nothing.
use mathlib.Core.Path.{◌≡◌, refl, sym, ap, ◌∙◌, subst}
use mathlib.Core.Bool.{true}
use mathlib.Core.List.{List, [], ◌∷◌, ◌++◌}
use mathlib.Core.Logic.{◌↔◌, ◌⊎◌, inl, inr, ⊎_elim}
use Prim.Native.Nat.{ℕ, zero, suc, ◌+◌, ◌≤◌, ◌<◌}
use native.Mathlib.Omega.{arith}
use native.Mathlib.Nat.{add-zero}
use lib.ListN.{length, get_or, drop, length-drop}
use lib.Seq.{drop-drop}
use lib.Dec.{eqb, ltb}
use borrow.Author.Tests.{eqb-true, eqb-false, ne_eqb, ltb-true, ltb-false, lt-ltb, le-ltb}
use Rattle.meaning.specs.Numbers.{END, Refusal, SHORT, KIND, MANY, VALUE, LATER, AFTER, NO_OUTPUT, DANGLING, UNLIKE, COUNT, OUT, VECTOR, NO_ROOM}
use Rattle.meaning.specs.Sheet.{Output, Sheet, Read, refused, value, Part, part_of_nothing, body_of, kind_is_unknown, exceeds_limits, operand_not_lower, Fault, sound, faulty, first_fault, fault_of, add, named, ending, read_from, reading_of_sheet}
use Rattle.laws.proofs.Basic.{case_bool, exactly}
use Rattle.promises.specs.Reading.{Whole, Sound, Faulty, unknown_kind, too_short, too_many, bad_value, not_lower, Comes, begin, onward, Reaches, FaultyAt, NamedBelow, FirstDangling, Refused, Accepted}
use Rattle.promises.proofs.Records.{Judged, judged_is, judge}

-- ## What the reader does with one record

-- the bytes of a body are passed over
skips : (rest : List ℕ) (skip at to : ℕ) (p : Part) → skip ≤ length rest → to ≡ at + skip → read_from rest skip at p ≡ read_from (drop skip rest) 0 to p
unfolding read_from
skips rest zero at to p l e = rw (e, add-zero)
skips [] (suc skip) at to p l e = absurd (omega arith)
skips (k ∷ rest) (suc skip) at to p l e = skips rest skip (suc at) to p (omega arith) (omega arith)

module _ (k : ℕ) (rest : List ℕ) (at : ℕ) (p : Part) where
  sound-record : Sound p k rest → ¬ (k ≡ END)
      → read_from (k ∷ rest) 0 at p ≡ read_from (drop (body_of k) rest) 0 (at + suc (body_of k)) (add p at k (get_or rest 0 0) (get_or rest 1 0))
  unfolding read_from Whole
  sound-record s n =
      rw (judged_is p k rest sound s, ne_eqb k END n, read_from)
      (skips rest (body_of k) (suc at) (at + suc (body_of k)) (add p at k (get_or rest 0 0) (get_or rest 1 0)) s.whole (omega arith))

  faulty-record : (r : Refusal) → Faulty p k rest r → read_from (k ∷ rest) 0 at p ≡ refused r at
  unfolding read_from
  faulty-record r f = rw (judged_is p k rest (faulty r) f, read_from)

end_record : (rest : List ℕ) (at : ℕ) (p : Part) → read_from (END ∷ rest) 0 at p ≡ ending p at rest
unfolding read_from fault_of first_fault body_of kind_is_unknown exceeds_limits operand_not_lower
end_record rest at p = rw (le-ltb (length rest) 0 (omega arith), read_from)

-- ## How reading comes to an offset

module _ (file : List ℕ) where
  pub rest_at : (at k : ℕ) (rest : List ℕ) → drop at file ≡ k ∷ rest → drop (at + suc (body_of k)) file ≡ drop (body_of k) rest
  rest_at at k rest e = sym (drop-drop (suc (body_of k)) at file) ∙ ap (drop (suc (body_of k))) e

  comes_reads : {at : ℕ} {p : Part} → Comes file at p → reading_of_sheet file ≡ read_from (drop at file) 0 at p
  unfolding reading_of_sheet
  comes_reads begin = refl
  comes_reads (onward {at} {p} k rest at' p' c here s n a q) =
      rw (a, q, rest_at at k rest here) (comes_reads c ∙ ap (λ (l : List ℕ). read_from l 0 at p) here ∙ sound-record k rest at p s n)

  comes_within : {at : ℕ} {p : Part} → Comes file at p → at ≤ length file
  unfolding Whole
  comes_within begin = omega arith
  comes_within (onward {at} {p} k rest at' p' c here s n a q) =
      omega (arith, a, ap length here, length-drop at file, s.whole, comes_within c)

-- ## The records that name signals

named_all : (n : ℕ) (naming : List (ℕ × ℕ)) (s : Sheet) → NamedBelow n naming → named n naming s ≡ value s
unfolding named
named_all n [] s b = refl
named_all n (x ∷ naming) s b = rw (lt-ltb x.1 n b.0) (named_all n naming s b.1)

named_up_to : (n : ℕ) (before : List (ℕ × ℕ)) (at signal : ℕ) (later : List (ℕ × ℕ)) (s : Sheet) → NamedBelow n before → n ≤ signal
    → named n (before ++ ((at, signal) ∷ later)) s ≡ refused DANGLING at
unfolding named
named_up_to n [] at signal later s b l = rw (le-ltb signal n l)
named_up_to n (x ∷ before) at signal later s b l = rw (lt-ltb x.1 n b.0) (named_up_to n before at signal later s b.1 l)

named-first : (n : ℕ) (naming : List (ℕ × ℕ)) (at : ℕ) (s : Sheet) → FirstDangling n naming at → named n naming s ≡ refused DANGLING at
named-first n naming at s f = rw f.split (named_up_to n f.before at f.signal f.later s f.good f.none)

below_or_not : (n : ℕ) (naming : List (ℕ × ℕ)) → NamedBelow n naming ⊎ ((at : ℕ) × FirstDangling n naming at)
below_or_not n [] = inl tt
below_or_not n (x ∷ naming) = case_bool (ltb x.1 n)
    (λ t. ⊎_elim (λ b. inl (ltb-true _ _ t, b)) (λ d. inr (d.0, later d.0 t d.1)) (below_or_not n naming))
    (λ t. inr (x.0, record { before = []; signal = x.1; later = naming; split = refl; good = tt; none = ltb-false _ _ t }))
  where
    later : (at : ℕ) → ltb x.1 n ≡ true → FirstDangling n naming at → FirstDangling n (x ∷ naming) at
    later at t f = record {
      before = x ∷ f.before;
      signal = f.signal;
      later = f.later;
      split = ap (λ (l : List (ℕ × ℕ)). x ∷ l) f.split;
      good = (ltb-true _ _ t, f.good);
      none = f.none;
    }

-- ## END

module _ (p : Part) (e : ℕ) where
  ending_more : (x : ℕ) (more : List ℕ) → ending p e (x ∷ more) ≡ refused AFTER (suc e)
  unfolding ending
  ending_more x more = refl

  ending_none : p.outputs ≡ [] → ending p e [] ≡ refused NO_OUTPUT e
  unfolding ending
  ending_none none = rw none

  ending_some : 0 < length p.outputs → ending p e [] ≡ named (length p.signals) p.naming (record { signals = p.signals; outputs = p.outputs })
  unfolding ending
  ending_some some = rw (ne_eqb (length p.outputs) 0 (λ z. omega arith))

-- ## What a file says

abbrev Says : List ℕ → Read Sheet → Type 0
Says file (refused r at) = Refused file r at
Says file (value s) = Accepted file s

module _ (file : List ℕ) where
  reaches_reads : (at : ℕ) (left : List ℕ) (x : Reaches file at left) → reading_of_sheet file ≡ read_from left 0 at x.part
  reaches_reads at left x = comes_reads file x.comes ∙ ap (λ (l : List ℕ). read_from l 0 at x.part) x.here

  faulty_reads : (r : Refusal) (at : ℕ) → FaultyAt file r at → reading_of_sheet file ≡ refused r at
  unfolding FaultyAt
  faulty_reads r at h = reaches_reads at (h.0 ∷ h.1) h.2 ∙ faulty-record h.0 h.1 at h.2.part r h.3

  end_reads : (e : ℕ) (after : List ℕ) (x : Reaches file e (END ∷ after)) → reading_of_sheet file ≡ ending x.part e after
  end_reads e after x = reaches_reads e (END ∷ after) x ∙ end_record after e x.part

  says_reads : (v : Read Sheet) → Says file v → reading_of_sheet file ≡ v
  unfolding Refused read_from
  says_reads (value s) a =
      end_reads a.end [] a.last ∙ ending_some a.last.part a.end a.some ∙ rw a.sheet (named_all _ _ _ a.named)
  says_reads (refused SHORT at) (inl h) = reaches_reads at [] h.0
  says_reads (refused SHORT at) (inr h) = faulty_reads SHORT at h
  says_reads (refused KIND at) h = faulty_reads KIND at h
  says_reads (refused MANY at) h = faulty_reads MANY at h
  says_reads (refused VALUE at) h = faulty_reads VALUE at h
  says_reads (refused LATER at) h = faulty_reads LATER at h
  says_reads (refused AFTER at) h = end_reads h.0 (h.1 ∷ h.2) h.3 ∙ ending_more h.3.part h.0 h.1 h.2 ∙ rw h.4
  says_reads (refused NO_OUTPUT at) h = end_reads at [] h.0 ∙ ending_none h.0.part at h.1
  says_reads (refused DANGLING at) h =
      end_reads h.0 [] h.1 ∙ ending_some h.1.part h.0 h.2 ∙ named-first _ _ at _ h.3
  says_reads (refused UNLIKE at) h = absurd h
  says_reads (refused COUNT at) h = absurd h
  says_reads (refused OUT at) h = absurd h
  says_reads (refused VECTOR at) h = absurd h
  says_reads (refused NO_ROOM at) h = absurd h

  -- ## Reading stops: at the file's end, at a faulty record, or at END

  Stop : Type 0
  Stop = (v : Read Sheet) × Says file v

  stops_faulty : (at k : ℕ) (rest : List ℕ) (x : Reaches file at (k ∷ rest)) (r : Refusal) → Faulty x.part k rest r → Refused file r at
  unfolding Refused FaultyAt
  stops_faulty at k rest x KIND (unknown_kind n) = (k, rest, x, unknown_kind n)
  stops_faulty at k rest x SHORT (too_short h n) = inr (k, rest, x, too_short h n)
  stops_faulty at k rest x MANY (too_many h w n) = (k, rest, x, too_many h w n)
  stops_faulty at k rest x VALUE (bad_value h w f n) = (k, rest, x, bad_value h w f n)
  stops_faulty at k rest x LATER (not_lower h w f b n) = (k, rest, x, not_lower h w f b n)
  stops_faulty at k rest x AFTER y = elim y [ ]
  stops_faulty at k rest x NO_OUTPUT y = elim y [ ]
  stops_faulty at k rest x DANGLING y = elim y [ ]
  stops_faulty at k rest x UNLIKE y = elim y [ ]
  stops_faulty at k rest x COUNT y = elim y [ ]
  stops_faulty at k rest x OUT y = elim y [ ]
  stops_faulty at k rest x VECTOR y = elim y [ ]
  stops_faulty at k rest x NO_ROOM y = elim y [ ]

  stops_last : (e : ℕ) (x : Reaches file e (END ∷ [])) (os : List Output) → x.part.outputs ≡ os → Stop
  unfolding Refused Stop
  stops_last e x [] none = (refused NO_OUTPUT e, (x, none))
  stops_last e x (o ∷ os) is =
      let some : 0 < length x.part.outputs = rw is (omega arith) in
      ⊎_elim
      (λ b. (value _, record { end = e; last = x; some = some; named = b; sheet = refl }))
      (λ d. (refused DANGLING d.0, (e, x, some, d.1)))
      (below_or_not (length x.part.signals) x.part.naming)

  stops_end : (e : ℕ) (after : List ℕ) → Reaches file e (END ∷ after) → Stop
  unfolding Refused Stop
  stops_end e (y ∷ more) x = (refused AFTER (suc e), (e, y, more, x, refl))
  stops_end e [] x = stops_last e x x.part.outputs refl

  missing : (at : ℕ) → Reaches file at [] → at ≡ length file
  missing at x = omega (arith, ap length x.here, length-drop at file, comes_within file x.comes)

  past : (at k : ℕ) (rest : List ℕ) (x : Reaches file at (k ∷ rest)) → Sound x.part k rest → ¬ (k ≡ END)
      → Reaches file (at + suc (body_of k)) (drop (body_of k) rest)
  past at k rest x s n = record {
    part = _;
    comes = onward k rest _ _ x.comes x.here s n refl refl;
    here = rest_at file at k rest x.here;
  }

  -- fewer bytes than `most` are left
  stops : (most at : ℕ) (left : List ℕ) → Reaches file at left → length left < most → Stop
  unfolding Refused Stop
  stops zero at left x l = absurd (omega arith)
  stops (suc most) at [] x l = (refused SHORT at, inl (x, missing at x))
  stops (suc most) at (k ∷ rest) x l =
      case_bool (eqb k END)
      (λ t. stops_end at rest (subst (λ (k : ℕ). Reaches file at (k ∷ rest)) (eqb-true k END t) x))
      (λ t. on (eqb-false k END t) (judge x.part k rest)
      (λ y. stops most (at + suc (body_of k)) (drop (body_of k) rest) y (omega (arith, length-drop (body_of k) rest))))
    where
      on : ¬ (k ≡ END) → (f : Fault) × Judged x.part k rest f → (Reaches file (at + suc (body_of k)) (drop (body_of k) rest) → Stop) → Stop
      on n (sound, s) more = more (past at k rest x s n)
      on n (faulty r, f) more = (refused r at, stops_faulty at k rest x r f)

  reads_exactly : (v : Read Sheet) → (reading_of_sheet file ≡ v) ↔ Says file v
  unfolding Stop
  reads_exactly =
      exactly (Says file) (reading_of_sheet file) says_reads
      (stops (suc (length file)) 0 file (record { part = part_of_nothing; comes = begin; here = refl }) (omega arith))

-- a sheet file is refused exactly so
pub refused_exactly : (file : List ℕ) (r : Refusal) (at : ℕ) → (reading_of_sheet file ≡ refused r at) ↔ Refused file r at
refused_exactly file r at = reads_exactly file (refused r at)

-- and accepted exactly so
pub accepted_exactly : (file : List ℕ) (s : Sheet) → (reading_of_sheet file ≡ value s) ↔ Accepted file s
accepted_exactly file s = reads_exactly file (value s)
