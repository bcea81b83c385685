-- The least number that passes a test. Assumes nothing.
use mathlib.Core.Path.{◌≡◌, refl, sym, ap, ◌∙◌}
use mathlib.Core.Bool.{Bool, true, false}
use Prim.Native.Nat.{ℕ, zero, suc, ◌+◌, ◌<◌, ◌≤◌}
use native.Mathlib.Numerals.{add-one}
use Rattle.std.specs.List.{find, range_with_len}
use Rattle.std.specs.Prelude.{Option, Some, None, MatchOption}
use Rattle.std.proofs.lemmas.Iterator.Adapters.{option_map_id}
use Rattle.std.specs.Option.{unwrap_or, option_map}
use native.Mathlib.Omega.{arith}
use lib.Dec.{ltb}
use borrow.Author.Tests.{ltb-true, ltb-false}
use Rattle.meaning.specs.Basic.{least_from}
use Rattle.laws.proofs.Basic.{case_bool, true_false, Least, least_is, least_hit, least_miss}

module _ (n : ℕ) (test : ℕ → Bool) where
  -- there is one least
  least-one : (l : ℕ) → Least 0 n test l → l ≡ least_from 0 n test
  least-one l it =
      let m : ℕ = least_from 0 n test in
      let r = least_is 0 n test in
      case_bool (ltb l m)
      (λ t. true_false (test l) (it.here (omega (arith, r.upto, ltb-true l m t))) (r.before l (omega arith) (ltb-true l m t)))
      (λ t. case_bool (ltb m l)
      (λ s. true_false (test m) (r.here (omega (arith, it.upto, ltb-true m l s))) (it.before m (omega arith) (ltb-true m l s)))
      (λ s. omega (arith, ltb-false l m t, ltb-false m l s)))

  -- none passes
  pub least_all : ((k : ℕ) → k < n → test k ≡ false) → n ≡ least_from 0 n test
  least_all none =
      least-one n (record { from = omega arith; upto = omega arith; before = λ k _ lk. none k lk; here = λ l. absurd (omega arith) })

-- tests that agree on the first n numbers have the same least
pub least_ext : (n : ℕ) (test test' : ℕ → Bool) → ((v : ℕ) → v < n → test v ≡ test' v) → least_from 0 n test ≡ least_from 0 n test'
least_ext n test test' agree =
    let r = least_is 0 n test in
    least-one n test' (least_from 0 n test) (record {
      from = r.from;
      upto = r.upto;
      before = λ v _ l. sym (agree v (omega (arith, r.upto))) ∙ r.before v (omega arith) l;
      here = λ l. sym (agree (least_from 0 n test) (omega arith)) ∙ r.here l;
    })

-- a test tried from one further on
pub least_later : (i k : ℕ) (test : ℕ → Bool) → least_from (suc i) k test ≡ suc (least_from i k (λ v. test (suc v)))
least_later i zero test = unfold least_from in refl
least_later i (suc k) test = case_bool (test (suc i))
    (λ t. least_hit (suc i) k test t ∙ ap suc (sym (least_hit i k (λ v. test (suc v)) t)))
    (λ t. least_miss (suc i) k test t ∙ least_later (suc i) k test ∙ ap suc (sym (least_miss i k (λ v. test (suc v)) t)))

-- ## By `find` over a range

-- the first of k numbers from i on that passes, if there is one
find-least : (i k : ℕ) (test : ℕ → Bool) → MatchOption (find test (range_with_len i k)) (least_from i k test ≡ i + k) (λ x. (x ≡ least_from i k test) × (x < i + k))
find-least i zero test = unfold least_from in omega arith
find-least i (suc k) test = case_bool (test i)
    (λ t. rw (t, least_hit i k test t) (refl, omega arith))
    (λ t. rw (t, least_miss i k test t, add-one i) (let more : i + suc k ≡ suc i + k = omega arith in rw more (find-least (suc i) k test)))

-- the first of the numbers below n that passes, if there is one
pub found_least : (n : ℕ) (test : ℕ → Bool) (r : Option ℕ) → option_map (λ x. x) r ≡ find test (range_with_len 0 n)
    → MatchOption r (least_from 0 n test ≡ n) (λ x. (x ≡ least_from 0 n test) × (x < n))
found_least n test r is =
    let start : 0 + n ≡ n = omega arith in
    rw (sym (option_map_id r) ∙ is) (rw start at (find-least 0 n test))

-- or n
or_end : (n m : ℕ) (r : Option ℕ) → MatchOption r (m ≡ n) (λ x. (x ≡ m) × (x < n)) → (unwrap_or r n ≡ m) × (unwrap_or r n ≤ n)
or_end n m None e = (sym e, omega arith)
or_end n m (Some x) f = (f.0, omega (arith, f.1))

-- where v passes, it is enough to try the numbers below v
pub found_below : (n v : ℕ) (test : ℕ → Bool) (r : Option ℕ) → v < n → test v ≡ true
    → option_map (λ x. x) r ≡ find test (range_with_len 0 v) → (unwrap_or r v ≡ least_from 0 n test) × (unwrap_or r v ≤ v)
found_below n v test r l hit is =
    let m : ℕ = least_from 0 v test in
    let it = least_is 0 v test in
    let here : m < 0 + n → test m ≡ true = λ lm. case_bool (ltb m v)
    (λ t. it.here (omega (arith, ltb-true m v t)))
    (λ t. let e : m ≡ v = omega (arith, it.upto, ltb-false m v t) in rw e hit) in
    let found = or_end v m r (found_least v test r is) in
    (found.0 ∙ least-one n test m (record { from = omega arith; upto = omega (arith, it.upto); before = λ k _ lk. it.before k (omega arith) lk; here = here }), found.1)
