-- The least that fails a test is the least that the tested proposition fails of. Assumes nothing.
use mathlib.Core.Path.{◌≡◌, refl, sym}
use mathlib.Core.Bool.{Bool, true, false, not}
use mathlib.Core.Logic.{◌↔◌}
use Prim.Native.Nat.{ℕ, ◌≤◌, ◌<◌}
use native.Mathlib.Omega.{arith}
use lib.Dec.{ltb}
use borrow.Author.Tests.{ltb-true, ltb-false, not-true, not-false}
use Rattle.meaning.specs.Basic.{least_from}
use Rattle.laws.proofs.Basic.{case_bool, true_false, least_is}
use Rattle.promises.specs.Calls.{LeastFailing}

not_of : (b : Bool) → b ≡ true → not b ≡ false
not_of true e = refl
not_of false e = sym e

module _ (n : ℕ) (test : ℕ → Bool) (P : ℕ → Type 0) (says : (v : ℕ) → v < n → (test v ≡ true) ↔ P v) where
  unfoldable pub least_bad : ℕ
  least_bad = least_from 0 n (λ v. not (test v))

  before_bad : (v : ℕ) → v < least_bad → P v
  unfolding least_bad
  before_bad v l =
      let r = least_is 0 n (λ v. not (test v)) in
      (says v (omega (arith, r.upto))).0 (not-false (test v) (r.before v (omega arith) l))

  pub bad_fails : least_bad < n → LeastFailing n P least_bad
  unfolding least_bad
  bad_fails l = record {
    below = l;
    fails = λ p. true_false (test least_bad) ((says least_bad l).1 p) (not-true (test least_bad) ((least_is 0 n (λ v. not (test v))).here (omega arith)));
    before = before_bad;
  }

  pub none_fails : n ≤ least_bad → (v : ℕ) → v < n → P v
  none_fails l v lv = before_bad v (omega arith)

  -- and the other way
  pub fails_bad : (i : ℕ) → LeastFailing n P i → least_bad ≡ i
  unfolding least_bad
  fails_bad i f =
      let r = least_is 0 n (λ v. not (test v)) in
      case_bool (ltb least_bad i)
      (λ t. let l = ltb-true least_bad i t in
      true_false (not (test least_bad)) (r.here (omega (arith, f.below))) (not_of (test least_bad) ((says least_bad (omega (arith, f.below))).1 (f.before least_bad l))))
      (λ t. case_bool (ltb i least_bad)
      (λ u. absurd (f.fails (before_bad i (ltb-true i least_bad u))))
      (λ u. omega (arith, ltb-false least_bad i t, ltb-false i least_bad u)))

  pub all_none : ((v : ℕ) → v < n → P v) → least_bad ≡ n
  unfolding least_bad
  all_none h =
      let r = least_is 0 n (λ v. not (test v)) in
      case_bool (ltb least_bad n)
      (λ t. let l = ltb-true least_bad n t in true_false (not (test least_bad)) (r.here (omega arith)) (not_of (test least_bad) ((says least_bad l).1 (h least_bad l))))
      (λ t. omega (arith, ltb-false least_bad n t, r.upto))
