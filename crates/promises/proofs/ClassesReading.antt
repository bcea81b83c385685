-- A grouping file is refused, and accepted, exactly under the conditions of specs/Reading. Assumes nothing.
use mathlib.Core.Path.{◌≡◌, refl, sym, ap, ◌∙◌, subst}
use mathlib.Core.List.{List, [], ◌∷◌, ◌++◌, append_assoc, append-nil}
use mathlib.Core.Logic.{◌↔◌, inl, inr}
use Prim.Native.Nat.{ℕ, suc, ◌+◌, ◌*◌}
use native.Mathlib.Omega.{arith}
use lib.ListN.{length, length-append}
use lib.Dec.{eqb}
use borrow.Author.Tests.{eqb-true, eqb-false, eq-eqb, ne_eqb}
use Rattle.meaning.specs.Numbers.{CLASS, END, Refusal, SHORT, KIND, MANY, VALUE, LATER, AFTER, NO_OUTPUT, DANGLING, UNLIKE, COUNT, OUT, VECTOR, NO_ROOM}
use Rattle.meaning.specs.Basic.{concat_map}
use Rattle.meaning.specs.Sheet.{Read, refused, value, read_classes_from, reading_of_classes}
use Rattle.laws.proofs.Basic.{case_bool, exactly}
use Rattle.promises.specs.Reading.{Classes, ClassesRefused, ClassesAccepted}

-- ## CLASS records

pub length-classes : (cs : List ℕ) → length (concat_map (λ c. CLASS ∷ c ∷ []) cs) ≡ 2 * length cs
unfolding concat_map
length-classes [] = refl
length-classes (c ∷ cs) = omega (arith, length-classes cs)

one_more : (cs : List ℕ) (c : ℕ) (rest : List ℕ)
    → concat_map (λ c. CLASS ∷ c ∷ []) cs ++ (CLASS ∷ c ∷ rest) ≡ concat_map (λ c. CLASS ∷ c ∷ []) (cs ++ (c ∷ [])) ++ rest
unfolding concat_map
one_more [] c rest = refl
one_more (d ∷ cs) c rest = ap (λ (l : List ℕ). CLASS ∷ d ∷ l) (one_more cs c rest)

-- they are passed over
classes_from : (n : ℕ) (cs before rest : List ℕ) (at to : ℕ) → to ≡ at + 2 * length cs
    → read_classes_from n (concat_map (λ c. CLASS ∷ c ∷ []) cs ++ rest) at before ≡ read_classes_from n rest to (before ++ cs)
unfolding read_classes_from concat_map
classes_from n [] before rest at to e = let same : to ≡ at = omega arith in rw (append-nil, same)
classes_from n (c ∷ cs) before rest at to e =
    classes_from n cs (before ++ (c ∷ [])) rest (at + 2) to (omega arith) ∙ ap (read_classes_from n rest to) (append_assoc before (c ∷ []) cs)

-- ## The record after them

module _ (n at : ℕ) (cs : List ℕ) where
  unknown_record : (k : ℕ) (rest : List ℕ) → ¬ (k ≡ CLASS) → ¬ (k ≡ END) → read_classes_from n (k ∷ rest) at cs ≡ refused KIND at
  unfolding read_classes_from
  unknown_record k [] c e = rw (ne_eqb k CLASS c, ne_eqb k END e)
  unknown_record k (x ∷ rest) c e = rw (ne_eqb k CLASS c, ne_eqb k END e)

  end_counted : length cs ≡ n → read_classes_from n (END ∷ []) at cs ≡ value cs
  unfolding read_classes_from
  end_counted h = rw (eq-eqb (length cs) n h)

  end_miscounted : ¬ (length cs ≡ n) → read_classes_from n (END ∷ []) at cs ≡ refused COUNT at
  unfolding read_classes_from
  end_miscounted h = rw (ne_eqb (length cs) n h)

-- ## What a file says

abbrev Says : ℕ → List ℕ → Read (List ℕ) → Type 0
Says n file (refused r at) = ClassesRefused n file r at
Says n file (value g) = ClassesAccepted n file g

module _ (n : ℕ) (file : List ℕ) where
  classes_reads : (cs rest : List ℕ) (at : ℕ) → Classes file cs rest at → reading_of_classes n file ≡ read_classes_from n rest at cs
  unfolding reading_of_classes
  classes_reads cs rest at x = rw x.split (classes_from n cs [] rest 0 at (omega (arith, x.offset)))

  says_reads : (v : Read (List ℕ)) → Says n file v → reading_of_classes n file ≡ v
  unfolding ClassesRefused read_classes_from
  says_reads (value g) a = classes_reads g (END ∷ []) a.end a.classes ∙ end_counted n a.end g a.count
  says_reads (refused SHORT at) (cs, inl h) = classes_reads cs [] at h.0
  says_reads (refused SHORT at) (cs, inr h) = classes_reads cs (CLASS ∷ []) at h
  says_reads (refused KIND at) h = classes_reads h.0 (h.1 ∷ h.2) at h.3 ∙ unknown_record n at h.0 h.1 h.2 h.4 h.5
  says_reads (refused AFTER at) h = rw h.5 (classes_reads h.0 (END ∷ h.1 ∷ h.2) h.3 h.4)
  says_reads (refused COUNT at) h = classes_reads h.0 (END ∷ []) at h.1 ∙ end_miscounted n at h.0 h.2
  says_reads (refused MANY at) h = absurd h
  says_reads (refused VALUE at) h = absurd h
  says_reads (refused LATER at) h = absurd h
  says_reads (refused NO_OUTPUT at) h = absurd h
  says_reads (refused DANGLING at) h = absurd h
  says_reads (refused UNLIKE at) h = absurd h
  says_reads (refused OUT at) h = absurd h
  says_reads (refused VECTOR at) h = absurd h
  says_reads (refused NO_ROOM at) h = absurd h

  -- ## Reading stops

  Stop : Type 0
  Stop = (v : Read (List ℕ)) × Says n file v

  missing : (cs : List ℕ) (at : ℕ) → Classes file cs [] at → at ≡ length file
  missing cs at x = rw (x.split, append-nil) (x.offset ∙ sym (length-classes cs))

  stops_class : (cs : List ℕ) (at c : ℕ) (rest : List ℕ) → Classes file cs (CLASS ∷ c ∷ rest) at → Classes file (cs ++ (c ∷ [])) rest (at + 2)
  stops_class cs at c rest x = record { split = x.split ∙ one_more cs c rest; offset = omega (arith, x.offset, length-append cs (c ∷ [])) }

  -- at a record that is no CLASS
  stops_other : (cs : List ℕ) (at k : ℕ) (rest : List ℕ) → Classes file cs (k ∷ rest) at → ¬ (k ≡ CLASS) → Stop
  unfolding Stop ClassesRefused
  stops_other cs at k rest x c =
      case_bool (eqb k END) (λ t. end rest (subst (λ (k : ℕ). Classes file cs (k ∷ rest) at) (eqb-true k END t) x))
      (λ t. (refused KIND at, (cs, k, rest, x, c, eqb-false k END t)))
    where
      end : (rest : List ℕ) → Classes file cs (END ∷ rest) at → Stop
      end (y ∷ more) x = (refused AFTER (suc at), (cs, y, more, at, x, refl))
      end [] x =
          case_bool (eqb (length cs) n)
          (λ t. (value cs, record { end = at; classes = x; count = eqb-true (length cs) n t }))
          (λ t. (refused COUNT at, (cs, x, eqb-false (length cs) n t)))

  stops : (left cs : List ℕ) (at : ℕ) → Classes file cs left at → Stop
  unfolding Stop ClassesRefused
  stops [] cs at x = (refused SHORT at, (cs, inl (x, missing cs at x)))
  stops (k ∷ []) cs at x =
      case_bool (eqb k CLASS)
      (λ t. (refused SHORT at, (cs, inr (subst (λ (k : ℕ). Classes file cs (k ∷ []) at) (eqb-true k CLASS t) x))))
      (λ t. stops_other cs at k [] x (eqb-false k CLASS t))
  stops (k ∷ c ∷ rest) cs at x =
      case_bool (eqb k CLASS)
      (λ t. stops rest (cs ++ (c ∷ [])) (at + 2) (stops_class cs at c rest (subst (λ (k : ℕ). Classes file cs (k ∷ c ∷ rest) at) (eqb-true k CLASS t) x)))
      (λ t. stops_other cs at k (c ∷ rest) x (eqb-false k CLASS t))

  reads_exactly : (v : Read (List ℕ)) → (reading_of_classes n file ≡ v) ↔ Says n file v
  unfolding Stop concat_map
  reads_exactly = exactly (Says n file) (reading_of_classes n file) says_reads (stops file [] 0 (record { split = refl; offset = refl }))

-- a grouping file is refused exactly so
pub classes-refused_exactly : (n : ℕ) (file : List ℕ) (r : Refusal) (at : ℕ) → (reading_of_classes n file ≡ refused r at) ↔ ClassesRefused n file r at
classes-refused_exactly n file r at = reads_exactly n file (refused r at)

-- and accepted exactly so
pub classes_accepted_exactly : (n : ℕ) (file g : List ℕ) → (reading_of_classes n file ≡ value g) ↔ ClassesAccepted n file g
classes_accepted_exactly n file g = reads_exactly n file (value g)
