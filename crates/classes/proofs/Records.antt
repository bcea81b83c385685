-- What `read_classes_from` says of the record at the front of the rest of a file, over its length and its first byte.
-- Assumes nothing.
use Prim.Native.Nat.{ℕ, ◌+◌, ◌<◌, ◌≤◌}
use mathlib.Core.Path.{◌≡◌, refl}
use mathlib.Core.List.{List, [], ◌∷◌, ◌++◌}
use native.Mathlib.Omega.{arith}
use native.Mathlib.Numerals.{add-one}
use borrow.Author.Tests.{eq-eqb, ne_eqb}
use lib.ListN.{length, get_or, drop}
use Rattle.meaning.specs.Numbers.{CLASS, END, SHORT, KIND, AFTER, COUNT}
use Rattle.meaning.specs.Sheet.{refused, value, read_classes_from}

module _ (n at : ℕ) (cs : List ℕ) where
  pub nothing_left : (rest : List ℕ) → length rest ≡ 0 → refused SHORT at ≡ read_classes_from n rest at cs
  unfolding read_classes_from
  nothing_left [] none = refl
  nothing_left (k ∷ rest) none = absurd (omega arith)

  pub class_cut : (rest : List ℕ) → length rest ≡ 1 → get_or rest 0 0 ≡ CLASS → refused SHORT at ≡ read_classes_from n rest at cs
  unfolding read_classes_from
  class_cut [] one class = absurd (omega arith)
  class_cut (k ∷ []) one class = simp (eq-eqb _ _ class)
  class_cut (k ∷ c ∷ rest) one class = absurd (omega arith)

  pub class-whole : (rest : List ℕ) → 2 ≤ length rest → get_or rest 0 0 ≡ CLASS
      → read_classes_from n rest at cs ≡ read_classes_from n (drop 2 rest) (at + 2) (cs ++ (get_or rest 1 0 ∷ []))
  unfolding read_classes_from
  class-whole [] two class = absurd (omega arith)
  class-whole (k ∷ []) two class = absurd (omega arith)
  class-whole (k ∷ c ∷ rest) two class = simp (eq-eqb _ _ class)

  pub unknown : (rest : List ℕ) → 0 < length rest → (get_or rest 0 0 ≡ CLASS → ⊥) → (get_or rest 0 0 ≡ END → ⊥)
      → refused KIND at ≡ read_classes_from n rest at cs
  unfolding read_classes_from
  unknown [] some other no_end = absurd (omega arith)
  unknown (k ∷ []) some other no_end = simp (ne_eqb _ _ other, ne_eqb _ _ no_end)
  unknown (k ∷ c ∷ rest) some other no_end = simp (ne_eqb _ _ other, ne_eqb _ _ no_end)

  pub end_after : (rest : List ℕ) → 1 < length rest → get_or rest 0 0 ≡ END → refused AFTER (at + 1) ≡ read_classes_from n rest at cs
  unfolding read_classes_from
  end_after [] more end = absurd (omega arith)
  end_after (k ∷ []) more end = absurd (omega arith)
  end_after (k ∷ c ∷ rest) more end = simp (end, add-one)

  pub end_count : (rest : List ℕ) → length rest ≡ 1 → get_or rest 0 0 ≡ END → (length cs ≡ n → ⊥) → refused COUNT at ≡ read_classes_from n rest at cs
  unfolding read_classes_from
  end_count [] one end unlike = absurd (omega arith)
  end_count (k ∷ []) one end unlike = simp (end, ne_eqb _ _ unlike)
  end_count (k ∷ c ∷ rest) one end unlike = absurd (omega arith)

  pub end_whole : (rest : List ℕ) → length rest ≡ 1 → get_or rest 0 0 ≡ END → length cs ≡ n → value cs ≡ read_classes_from n rest at cs
  unfolding read_classes_from
  end_whole [] one end like = absurd (omega arith)
  end_whole (k ∷ []) one end like = simp (end, eq-eqb _ _ like)
  end_whole (k ∷ c ∷ rest) one end like = absurd (omega arith)
