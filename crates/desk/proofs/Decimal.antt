-- The fewest digits that hold a number are those of its decimal. Assumes nothing.
use Prim.Native.Nat.{ℕ, zero, suc, ◌+◌, ◌-◌, ◌/◌, ◌%◌, ◌^◌, ◌<◌, ◌≤◌}
use mathlib.Core.Path.{◌≡◌, refl, sym, ap, ◌∙◌}
use mathlib.Core.Bool.{true, false}
use mathlib.Core.List.{List, [], ◌∷◌, ◌++◌}
use native.Mathlib.Nat.{pow-le-pow_right, zero-lt-suc, pow-suc}
use native.Mathlib.Numerals.{unary_clauses}
use native.Mathlib.Omega.{arith}
use lib.Dec.{ltb}
use borrow.Author.Tests.{ltb-true, ltb-false}
use Rattle.std.specs.Fmt as printed
use Rattle.std.proofs.lemmas.Bool.Decides.{nat_tests}
use Rattle.std.proofs.lemmas.Fmt.{decimal_by_steps}
use Rattle.io.specs.Digits.{hex_digit_ascii, last_digits, IsDigitCount}
use Rattle.laws.proofs.Basic.{case_bool}
use Rattle.desk.specs.Line.{places_from, decimal}

pow_ten : (i j : ℕ) → i ≤ j → 10 ^ i ≤ 10 ^ j
pow_ten i j h = pow-le-pow_right (zero-lt-suc 9) h

-- a number is below its power of ten
below_power : (m : ℕ) → m < 10 ^ m
below_power zero = omega arith
below_power (suc m) = omega (arith, below_power m, pow-suc 10 m)

-- Where the fewest digits are among those tried, they are found.
places_fewest : (more k j n : ℕ) → 1 ≤ j → j ≤ k → k ≤ j + more → IsDigitCount 10 1 n k → places_from more j n ≡ k
unfolding places_from
places_fewest zero k j n some low high fewest = omega arith
places_fewest (suc more) k j n some low high fewest = case_bool (ltb n (10 ^ j)) found (missed (λ low'. places_fewest more k (suc j) n (omega arith) low' (omega arith) fewest))
  where
    found : ltb n (10 ^ j) ≡ true → places_from (suc more) j n ≡ k
    found t =
        rw (t, places_from)
        (case_bool (ltb j k)
        (λ less. let l : j < k = ltb-true j k less in
        absurd (omega (arith, ltb-true n (10 ^ j) t, fewest.2 (omega arith), pow_ten j (k - 1) (omega arith))))
        (λ no. omega (arith, ltb-false j k no)))

    missed : (suc j ≤ k → places_from more (suc j) n ≡ k) → ltb n (10 ^ j) ≡ false → places_from (suc more) j n ≡ k
    missed rest t =
        rw (t, places_from)
        (case_bool (ltb j k)
        (λ less. rest (ltb-true j k less))
        (λ no. let same : j ≡ k = omega (arith, ltb-false j k no) in
        let above : 10 ^ k ≤ n = rw same at (ltb-false n (10 ^ j) t) in
        absurd (omega (arith, above, fewest.1))))

-- The digits that a program finds to be the fewest are the number in decimal.
pub decimal_digits : (n k : ℕ) → IsDigitCount 10 1 n k → last_digits 10 k n ≡ decimal n
unfolding decimal
decimal_digits n k fewest =
    ap (λ (m : ℕ). last_digits 10 m n) (sym (places_fewest n k 1 n (omega arith) fewest.0 few fewest))
  where
    few : k ≤ 1 + n
    few =
        case_bool (ltb 1 k)
        (λ more. let l : 1 < k = ltb-true 1 k more in
        omega (arith, l, fewest.2 l, below_power (k - 1)))
        (λ no. omega (arith, ltb-false 1 k no))

-- A text that is the fewest digits of a number.
record IsFewest (n : ℕ) (text : List ℕ) : Type 0 where
  pub count : ℕ
  pub fewest : IsDigitCount 10 1 n count
  pub digits : text ≡ last_digits 10 count n

digit : (d : ℕ) → d < 10 → 48 + d ≡ hex_digit_ascii d
digit d h = grind (arith, nat_tests)

one_digit : (n : ℕ) → n < 10 → IsFewest n ((48 + n) ∷ [])
one_digit n h =
    let same : n % 10 ≡ n = omega arith in
    record { count = 1; fewest = (omega arith, omega arith, λ no. absurd (omega arith)); digits = rw (same, ← digit n h) refl }

-- with a digit more behind, no fewer digits would do
no_fewer : (k n : ℕ) → 1 ≤ k → 10 ≤ n → (1 < k → 10 ^ (k - 1) ≤ n / 10) → 10 ^ k ≤ n
no_fewer k n some large front =
    case_bool (ltb 1 k)
    (λ more. let l : 1 < k = ltb-true 1 k more in
    let next : k ≡ suc (k - 1) = omega arith in
    rw next (omega (arith, front l, pow-suc 10 (k - 1))))
    (λ no. let one : k ≡ 1 = omega (arith, ltb-false 1 k no) in
    rw one large)

digit_more : (n : ℕ) (text : List ℕ) → 10 ≤ n → IsFewest (n / 10) text → IsFewest n (text ++ ((48 + n % 10) ∷ []))
digit_more n text h front =
    let last : n % 10 < 10 = omega arith in
    record {
      count = suc front.count;
      fewest = (omega arith, omega (arith, front.fewest.1, pow-suc 10 front.count), λ _. simp unary_clauses (no_fewer front.count n front.fewest.0 h front.fewest.2));
      digits = rw (front.digits, ← digit (n % 10) last) refl;
    }

-- What `{}` writes of a number of 64 bits is its decimal.
pub printed_decimal : (n : ℕ) → n < 2 ^ 64 → printed.decimal n ≡ decimal n
printed_decimal n small =
    let told = decimal_by_steps IsFewest one_digit digit_more n small in told.digits ∙ decimal_digits n told.count told.fewest
