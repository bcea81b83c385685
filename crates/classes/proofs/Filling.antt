-- A lent buffer that is filled from the front keeps its length and what stands after the front.
-- Assumes nothing.
use Prim.Native.Nat.{ℕ, zero, suc, ◌+◌, ◌*◌, ◌<◌, ◌≤◌}
use mathlib.Core.Path.{◌≡◌, refl, sym, ap}
use mathlib.Core.List.{List, [], ◌∷◌, ◌++◌, append_assoc}
use native.Mathlib.Numerals.{add-one}
use native.Mathlib.Omega.{arith}
use lib.ListN.{length, get_or, set, take, drop, length-append}
use lib.Seq.{take_all, drop-cons, set_at}
use Rattle.meaning.specs.Numbers.{CLASS, END}
use Rattle.meaning.specs.Basic.{concat_map}
use Rattle.meaning.specs.Sheet.{bytes_of_classes}
use Rattle.classes.specs.Grouping.{classes_in}
use Rattle.classes.proofs.Judging.{classes-length}

-- one element more, stored where the front ends
pub front_more : (front old : List ℕ) (i x : ℕ) → length front ≡ i → i < length old
    → set (front ++ drop i old) i x ≡ (front ++ (x ∷ [])) ++ drop (i + 1) old
front_more front old i x long inside =
    rw (drop-cons old i 0, set_at front _ _ x i long, add-one) (sym (append_assoc front (x ∷ []) (drop (suc i) old)))

-- ## The classes of a file, stored over the old ones

module _ (file old : List ℕ) where
  pub classes_more : (now : List ℕ) (i x : ℕ) → i < length old → x ≡ get_or file (2 * i + 1) 0 → now ≡ classes_in file i ++ drop i old
      → set now i x ≡ classes_in file (i + 1) ++ drop (i + 1) old
  unfolding classes_in
  classes_more now i x inside is so =
      rw (so, front_more (classes_in file i) old i x (classes-length file i) inside, is, add-one i)

-- ## The records of classes, written over an old result

-- the CLASS records of the first i of some classes
abbrev pub records : List ℕ → ℕ → List ℕ
records cs i = concat_map (λ c. CLASS ∷ c ∷ []) (take i cs)

records_more : (cs : List ℕ) (i : ℕ) → i < length cs → records cs (suc i) ≡ records cs i ++ (CLASS ∷ get_or cs i 0 ∷ [])
unfolding concat_map
records_more [] i inside = absurd (omega arith)
records_more (c ∷ cs) zero inside = refl
records_more (c ∷ cs) (suc i) inside = ap (λ (l : List ℕ). CLASS ∷ c ∷ l) (records_more cs i (omega arith))

records_length : (cs : List ℕ) (i : ℕ) → i ≤ length cs → length (records cs i) ≡ 2 * i
unfolding concat_map
records_length cs zero inside = refl
records_length [] (suc i) inside = absurd (omega arith)
records_length (c ∷ cs) (suc i) inside = let rest : length (records cs i) ≡ 2 * i = records_length cs i (omega arith) in omega arith

module _ (cs old : List ℕ) where
  pub written_none : old ≡ records cs 0 ++ drop (2 * 0) old
  unfolding concat_map
  written_none = refl

  module _ (now : List ℕ) (i : ℕ) (so : now ≡ records cs i ++ drop (2 * i) old) where
    -- one record more
    pub written_more : i < length cs → 2 * i + 1 < length old
        → set (set now (2 * i) CLASS) (2 * i + 1) (get_or cs i 0) ≡ records cs (i + 1) ++ drop (2 * (i + 1)) old
    written_more inside room =
        let long : length (records cs i) ≡ 2 * i = records_length cs i (omega arith) in
        let long' : length (records cs i ++ (CLASS ∷ [])) ≡ 2 * i + 1 = simp (length-append, long) in
        let end : 2 * i + 1 + 1 ≡ 2 * (i + 1) = omega arith in
        rw (so, front_more (records cs i) old (2 * i) CLASS long (omega arith), front_more (records cs i ++ (CLASS ∷ [])) old (2 * i + 1) (get_or cs i 0) long' room, append_assoc (records cs i) (CLASS ∷ []) (get_or cs i 0 ∷ []), end, add-one i, records_more cs i inside)

    -- all records, and END
    pub written_all : i ≡ length cs → 2 * i < length old → set now (2 * length cs) END ≡ bytes_of_classes cs ++ drop (2 * length cs + 1) old
    unfolding bytes_of_classes
    written_all all room =
        rw (← all, so, front_more (records cs i) old (2 * i) END (records_length cs i (omega arith)) room, take_all i cs (omega arith))
