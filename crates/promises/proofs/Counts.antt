-- The first of some counts above N, and the greatest of them. Assumes nothing.
use mathlib.Core.Path.{◌≡◌, refl, sym, ◌∙◌}
use mathlib.Core.Bool.{true, false, not}
use mathlib.Core.List.{List, ◌∷◌, map}
use mathlib.Core.Logic.{◌↔◌}
use Prim.Native.Nat.{ℕ, zero, suc, ◌+◌, ◌≤◌, ◌<◌, max}
use native.Mathlib.Omega.{arith}
use lib.Dec.{ltb, leb}
use borrow.Author.Tests.{ltb-true, ltb-false, leb-true, le-leb, lt-leb}
use Rattle.meaning.specs.Basic.{up_from, least_from}
use Rattle.meaning.specs.Answer.{first_above, greatest}
use Rattle.laws.proofs.Basic.{case_bool, least_hit, least_miss}
use Rattle.promises.specs.Calls.{Greatest}

-- ## The first above N

above_hit : (N i c : ℕ) (cs : List ℕ) → ltb N c ≡ true → first_above N i (c ∷ cs) ≡ i
unfolding first_above
above_hit N i c cs e = rw (e, first_above)

above_miss : (N i c : ℕ) (cs : List ℕ) → ltb N c ≡ false → first_above N i (c ∷ cs) ≡ first_above N (suc i) cs
unfolding first_above
above_miss N i c cs e = rw (e, first_above)

not-leb : (a b : ℕ) → b < a → not (leb a b) ≡ true
not-leb a b l = rw (lt-leb a b l)

is_leb : (a b : ℕ) → a ≤ b → not (leb a b) ≡ false
is_leb a b l = rw (le-leb a b l)

module _ (N : ℕ) (c : ℕ → ℕ) where
  pub above_least : (i k : ℕ) → first_above N i (map c (up_from i k)) ≡ least_from i k (λ j. not (leb (c j) N))
  unfolding up_from
  above_least i zero = unfold first_above least_from in refl
  above_least i (suc k) = case_bool (ltb N (c i))
      (λ t. above_hit N i (c i) _ t ∙ sym (least_hit i k _ (not-leb (c i) N (ltb-true _ _ t))))
      (λ t. above_miss N i (c i) _ t ∙ above_least (suc i) k ∙ sym (least_miss i k _ (is_leb (c i) N (ltb-false _ _ t))))

  pub fits_iff : (j : ℕ) → (leb (c j) N ≡ true) ↔ (c j ≤ N)
  fits_iff j = ((λ t. leb-true _ _ t), (λ l. le-leb _ _ l))

-- ## The greatest

module _ (c : ℕ → ℕ) where
  greatest_base : (b i k : ℕ) → b ≤ greatest b (map c (up_from i k))
  unfolding greatest up_from
  greatest_base b i zero = omega arith
  greatest_base b i (suc k) = omega (arith, greatest_base (max b (c i)) (suc i) k)

  greatest_each : (b i k j : ℕ) → i ≤ j → j < i + k → c j ≤ greatest b (map c (up_from i k))
  unfolding greatest up_from
  greatest_each b i zero j l m = absurd (omega arith)
  greatest_each b i (suc k) j l m = case_bool (ltb i j)
      (λ t. greatest_each (max b (c i)) (suc i) k j (ltb-true i j t) (omega arith))
      (λ t. let here : j ≡ i = omega (arith, ltb-false i j t) in rw here (omega (arith, greatest_base (max b (c i)) (suc i) k)))

  greatest-least : (b i k m : ℕ) → b ≤ m → ((j : ℕ) → i ≤ j → j < i + k → c j ≤ m) → greatest b (map c (up_from i k)) ≤ m
  unfolding greatest up_from
  greatest-least b i zero m l h = l
  greatest-least b i (suc k) m l h =
      greatest-least (max b (c i)) (suc i) k m (omega (arith, h i (omega arith) (omega arith))) (λ j p q. h j (omega arith) (omega arith))

  pub greatest_is : (b r : ℕ) → Greatest b c r (greatest b (map c (up_from 0 (suc r))))
  greatest_is b r = record {
    base = greatest_base b 0 (suc r);
    each = λ i l. greatest_each b 0 (suc r) i (omega arith) (omega arith);
    least = λ k l h. greatest-least b 0 (suc r) k l (λ j p q. h j (omega arith));
  }

  pub greatest_only : (b r m m' : ℕ) → Greatest b c r m → Greatest b c r m' → m ≡ m'
  greatest_only b r m m' g g' = omega (arith, g.least m' g'.base g'.each, g'.least m g.base g.each)
