-- Laws of VECTOR: which vectors have a bit beyond the inputs, and the first tick with one. Assumes nothing.
use Rattle.std.specs.Prelude.{Some, None, position}
use Rattle.std.specs.List.{position_or_len}
use Rattle.std.proofs.lemmas.List.Sums.{fails_before_first}
use Prim.Native.Nat.{ℕ, suc, ◌+◌, ◌/◌, ◌^◌, ◌<◌, ◌≤◌}
use mathlib.Core.Path.{◌≡◌, ◌∙◌}
use mathlib.Core.Bool.{Bool, true, false, not}
use mathlib.Core.List.{List, [], ◌∷◌}
use native.Mathlib.Nat.{div-lt_iff_lt-mul}
use native.Mathlib.Omega.{arith}
use borrow.Author.Tests.{lt-ltb, ltb-true, ltb-false, eq-eqb, eqb-true, not-false}
use lib.Dec.{ltb, eqb}
use lib.ListN.{length, get_or}
use lib.Pow.{pow_pos}
use Rattle.laws.proofs.Basic.{case_bool, bool_iff}
use Rattle.meaning.specs.Answer.{bad_vector_place}

-- no bit is beyond exactly where a shift by the inputs leaves nothing
pub shifted_none : (v i : ℕ) → eqb (v / 2 ^ i) 0 ≡ ltb v (2 ^ i)
shifted_none v i =
    bool_iff (eqb (v / 2 ^ i) 0) (ltb v (2 ^ i))
    (λ t. lt-ltb v (2 ^ i) (omega (arith, (div-lt_iff_lt-mul {k = 2 ^ i} {x = v} {y = 1} (pow_pos i)).0 (omega (arith, eqb-true (v / 2 ^ i) 0 t)))))
    (λ t. eq-eqb (v / 2 ^ i) 0 (omega (arith, (div-lt_iff_lt-mul {k = 2 ^ i} {x = v} {y = 1} (pow_pos i)).1 (omega (arith, ltb-true v (2 ^ i) t)))))

module _ (i : ℕ) where
  bad_here : (t v : ℕ) (vs : List ℕ) → ltb v (2 ^ i) ≡ false → bad_vector_place i t (v ∷ vs) ≡ t
  unfolding bad_vector_place
  bad_here t v vs e = rw (e, bad_vector_place)

  bad_later : (t v : ℕ) (vs : List ℕ) → ltb v (2 ^ i) ≡ true → bad_vector_place i t (v ∷ vs) ≡ bad_vector_place i (suc t) vs
  unfolding bad_vector_place
  bad_later t v vs e = rw (e, bad_vector_place)

  -- ## The first vector with a bit beyond the inputs

  abbrev beyond : ℕ → Bool
  beyond v = not (ltb v (2 ^ i))

  place_first : (t : ℕ) (vs : List ℕ) → bad_vector_place i t vs ≡ t + position_or_len beyond vs
  unfolding bad_vector_place
  place_first t [] = omega arith
  place_first t (v ∷ vs) =
      case_bool (ltb v (2 ^ i))
      (λ e. bad_later t v vs e ∙ place_first (suc t) vs ∙ rw e (omega arith))
      (λ e. bad_here t v vs e ∙ rw e (omega arith))

  module _ (vectors : List ℕ) where
    -- where none is found, every vector keeps to the inputs
    pub vectors_keep : length vectors ≤ bad_vector_place i 0 vectors → (k : ℕ) → k < length vectors → get_or vectors k 0 < 2 ^ i
    vectors_keep all k inside =
        let before : k < position_or_len beyond vectors = omega (arith, place_first 0 vectors) in
        ltb-true _ _ (not-false _ (fails_before_first beyond vectors k 0 before))

    pub vector_bad : (t : ℕ) → Some t ≡ position beyond vectors → (t ≡ bad_vector_place i 0 vectors) × (t < length vectors)
    vector_bad t e =
        let place : bad_vector_place i 0 vectors ≡ position_or_len beyond vectors = place_first 0 vectors ∙ omega arith in
        case_bool (ltb (position_or_len beyond vectors) (length vectors))
        (λ b. let found : position_or_len beyond vectors ≡ t = let h = rw b at e in cc in
        (omega arith, omega (arith, ltb-true _ _ b)))
        (λ b. let h = rw b at e in absurd (cc))

    pub vectors_good : None ≡ position beyond vectors → length vectors ≤ bad_vector_place i 0 vectors
    vectors_good e =
        let place : bad_vector_place i 0 vectors ≡ position_or_len beyond vectors = place_first 0 vectors ∙ omega arith in
        case_bool (ltb (position_or_len beyond vectors) (length vectors))
        (λ b. let h = rw b at e in absurd (cc))
        (λ b. omega (arith, ltb-false _ _ b))
