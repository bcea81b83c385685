-- The equalities of a grouping and their running product, step by step and up to Q, and the functions that they come to. Assumes nothing.
use mathlib.Core.Path.{◌≡◌, refl, sym, ap, ap₂, fun_ext}
use mathlib.Core.Bool.{Bool, true, false, ◌&&◌, and-true, and_assoc}
use mathlib.Core.List.{List, [], ◌∷◌, map}
use mathlib.Core.Logic.{◌⊎◌, inl, inr, ⊎_elim}
use Prim.Native.Nat.{ℕ, zero, suc, ◌+◌, ◌≤◌, ◌<◌}
use native.Mathlib.Omega.{arith}
use native.Mathlib.Nat.{zero-add, add-zero, add-suc, suc-add, eq-or-lt_of_le}
use lib.ListN.{length}
use Rattle.meaning.specs.Basic.{up_from, keep, all_true}
use Rattle.meaning.specs.Sheet.{Sheet}
use Rattle.meaning.specs.Joint.{matches, h_now, Q}
use Rattle.meaning.specs.Room.{running}
use Rattle.laws.proofs.Basic.{case_bool, true_false}
use Rattle.tree.specs.Function.{column, Columns}
use Rattle.tree.proofs.Columns.{columns_as}
use Rattle.lists.specs.Lists.{not_first, state_at, inputs_at, h_at, match_at, product_to}

-- one function more, in front
columns_cons : (f : List Bool → Bool) (row : List Bool → List Bool) (k : ℕ) (P : (List Bool → Bool) → Type 0) → Columns row k P
    → Columns (λ e. f e ∷ row e) (suc k) (λ x. (x ≡ f) ⊎ P x)
columns_cons f row k P c = record {
  sized = λ e. ap suc (c.sized e);
  each = each;
  all = λ x p. ⊎_elim (λ e. (0, omega arith, sym e)) (λ q. let r = c.all x q in let l = r.1 in (suc r.0, omega arith, r.2)) p;
}
  where
    each : (v : ℕ) → v < suc k → (column (λ e. f e ∷ row e) v ≡ f) ⊎ P (column (λ e. f e ∷ row e) v)
    each zero l = inl refl
    each (suc v) l = inr (c.each v (omega arith))

module _ (A B : Sheet) (g : List ℕ) where
  -- ## Step by step

  pub product_none : (e : List Bool) → product_to A B g 0 e ≡ true
  unfolding product_to
  product_none e = refl

  pub product_hit : (v : ℕ) (e : List Bool) → not_first g v ≡ true → product_to A B g (suc v) e ≡ product_to A B g v e && match_at A B g v e
  unfolding product_to
  product_hit v e t = rw t

  pub product_miss : (v : ℕ) (e : List Bool) → not_first g v ≡ false → product_to A B g (suc v) e ≡ product_to A B g v e
  unfolding product_to
  product_miss v e t = rw t

  -- ## Up to Q

  -- the equalities of those that aren't first in their class, of k signals from i on
  equalities : ℕ → ℕ → List Bool → List Bool
  equalities i k e = map (λ v. match_at A B g v e) (keep (not_first g) (up_from i k))

  equalities_none : (i : ℕ) (e : List Bool) → equalities i 0 e ≡ []
  unfolding equalities keep up_from
  equalities_none i e = refl

  equalities_hit : (i k : ℕ) (e : List Bool) → not_first g i ≡ true → equalities i (suc k) e ≡ match_at A B g i e ∷ equalities (suc i) k e
  unfolding equalities keep up_from
  equalities_hit i k e t = rw (t, keep)

  equalities_miss : (i k : ℕ) (e : List Bool) → not_first g i ≡ false → equalities i (suc k) e ≡ equalities (suc i) k e
  unfolding equalities keep up_from
  equalities_miss i k e t = rw (t, keep)

  equalities_matches : (e : List Bool) → equalities 0 (length g) e ≡ matches g (h_now A B e)
  unfolding equalities matches not_first match_at h_at state_at inputs_at h_now
  equalities_matches e = refl

  product_all : (i k : ℕ) (e : List Bool) → product_to A B g i e && all_true (equalities i k e) ≡ product_to A B g (i + k) e
  unfolding all_true
  product_all i zero e = rw (equalities_none i e, add-zero) (and-true (product_to A B g i e))
  product_all i (suc k) e = step (product_all (suc i) k e)
    where
      step : product_to A B g (suc i) e && all_true (equalities (suc i) k e) ≡ product_to A B g (suc i + k) e
          → product_to A B g i e && all_true (equalities i (suc k) e) ≡ product_to A B g (i + suc k) e
      step ih = case_bool (not_first g i)
          (λ t. rw (equalities_hit i k e t, ← and_assoc, ← product_hit i e t, add-suc, ← suc-add) ih)
          (λ t. rw (equalities_miss i k e t, ← product_miss i e t, add-suc, ← suc-add) ih)

  -- Q is the product of all
  pub product-Q : (e : List Bool) → product_to A B g (length g) e ≡ Q A B g e
  unfolding Q
  product-Q e = sym (rw (product_none e, equalities_matches e, zero-add) at (product_all 0 (length g) e))

  -- ## The functions of the running list

  -- each equality of k signals from i on, and the product up to it
  run : ℕ → ℕ → List Bool → List Bool
  run i k e = running (product_to A B g i e) (equalities i k e)

  abbrev pub Run : ℕ → ℕ → (List Bool → Bool) → Type 0
  Run i k x = (v : ℕ) × (i ≤ v) × (v < i + k) × (not_first g v ≡ true) × ((x ≡ match_at A B g v) ⊎ (x ≡ product_to A B g (suc v)))

  run-matches : run 0 (length g) ≡ (λ e. running true (matches g (h_now A B e)))
  unfolding run
  run-matches = fun_ext (λ e. ap₂ running (product_none e) (equalities_matches e))

  run_none : (i : ℕ) (e : List Bool) → run i 0 e ≡ []
  unfolding run running
  run_none i e = rw (equalities_none i e)

  run_hit : (i k : ℕ) → not_first g i ≡ true → run i (suc k) ≡ (λ e. match_at A B g i e ∷ product_to A B g (suc i) e ∷ run (suc i) k e)
  unfolding run running
  run_hit i k t = fun_ext (λ e. rw (equalities_hit i k e t, product_hit i e t))

  run_miss : (i k : ℕ) → not_first g i ≡ false → run i (suc k) ≡ run (suc i) k
  unfolding run
  run_miss i k t = fun_ext (λ e. rw (equalities_miss i k e t, product_miss i e t))

  wider : (i k : ℕ) (x : List Bool → Bool) → Run (suc i) k x → Run i (suc k) x
  wider i k x r = let l = r.1 in let h = r.2 in (r.0, omega arith, omega arith, r.3, r.4)

  narrower : (i k : ℕ) (x : List Bool → Bool) → Run i (suc k) x
      → ((not_first g i ≡ true) × ((x ≡ match_at A B g i) ⊎ (x ≡ product_to A B g (suc i)))) ⊎ Run (suc i) k x
  narrower i k x r = ⊎_elim (λ e. inl (rw e (r.3, r.4))) (λ l. let h = r.2 in inr (r.0, omega arith, omega arith, r.3, r.4)) (eq-or-lt_of_le r.1)

  run_columns : (i k : ℕ) → (n : ℕ) × Columns (run i k) n (Run i k)
  run_columns i zero =
      (0, record { sized = λ e. ap length (run_none i e); each = λ v l. absurd (omega arith); all = λ x r. let l = r.1 in let h = r.2 in absurd (omega arith) })
  run_columns i (suc k) = step (run_columns (suc i) k)
    where
      step : (n : ℕ) × Columns (run (suc i) k) n (Run (suc i) k) → (n : ℕ) × Columns (run i (suc k)) n (Run i (suc k))
      step r = case_bool (not_first g i)
          (λ t. (
            suc (suc r.0),
            rw (run_hit i k t) (columns_as _ _ _ _
                (λ x p. ⊎_elim (λ e. (i, omega arith, omega arith, t, inl e)) (λ q. ⊎_elim (λ e. (i, omega arith, omega arith, t, inr e)) (wider i k x) q) p)
                (λ x p. ⊎_elim (λ h. ⊎_elim inl (λ e. inr (inl e)) h.1) (λ q. inr (inr q)) (narrower i k x p))
                (columns_cons _ _ _ _ (columns_cons _ _ _ _ r.1))),
          ))
          (λ t. (
            r.0,
            rw (run_miss i k t) (columns_as _ _ _ _
                (wider i k)
                (λ x p. ⊎_elim (λ h. true_false (not_first g i) h.0 t) (λ q. q) (narrower i k x p))
                r.1),
          ))

  pub running_columns : (n : ℕ) × Columns (λ e. running true (matches g (h_now A B e))) n (Run 0 (length g))
  running_columns = let r = run_columns 0 (length g) in (r.0, rw run-matches at r.1)
