-- Ids that tell signals apart within the classes: the fault by ids is the fault, and the classes split by ids are the next. Assumes nothing.
use mathlib.Core.Path.{◌≡◌, sym, ap, ◌∙◌}
use mathlib.Core.Bool.{Bool, true, not}
use mathlib.Core.Logic.{◌↔◌}
use mathlib.Core.List.{List}
use Prim.Native.Nat.{ℕ, zero, suc, ◌<◌}
use native.Mathlib.Omega.{arith}
use borrow.Author.Tests.{eqb-true, eq-eqb}
use lib.ListN.{length, get_or}
use lib.Dec.{eqb}
use Rattle.meaning.specs.Basic.{least_from}
use Rattle.meaning.specs.Sheet.{Sheet}
use Rattle.meaning.specs.Joint.{class, first, grouping, total, start_same, step_same, start_fault, step_fault, T}
use Rattle.laws.proofs.Basic.{bool_iff}
use Rattle.promises.specs.Correspondence.{StartEqual, StepEqual}
use Rattle.promises.proofs.Tests.{first_is, start_iff, step_iff}
use Rattle.promises.proofs.Groups.{grouping_ext}
use Rattle.promises.proofs.Equations.{length-T}
use Rattle.groups.specs.ByIds.{differs, fault_by, same_by, split_by, Tells}
use Rattle.groups.proofs.Least.{least_ext}
use Rattle.groups.proofs.Same.{same_iff}
use Rattle.groups.proofs.Numbering.{grouping_below}

-- ## For any relation within the classes, and the test that computes it

module _ (g ids : List ℕ) (n : ℕ) (long : length g ≡ n) (Equal : ℕ → ℕ → Type 0) (same : ℕ → ℕ → Bool)
    (says : (u v : ℕ) → (same u v ≡ true) ↔ ((class g u ≡ class g v) × Equal u v)) (tells : Tells g ids Equal) where
  same_is : (u v : ℕ) → u < n → v < n → same_by g ids u v ≡ same u v
  unfolding Tells
  same_is u v lu lv = bool_iff (same_by g ids u v) (same u v)
      (λ t. let r = (same_iff g ids u v).0 t in (says u v).1 (r.0, (tells u v (omega arith) (omega arith) r.0).0 r.1))
      (λ t. let r = (says u v).0 t in (same_iff g ids u v).1 (r.0, (tells u v (omega arith) (omega arith) r.0).1 r.1))

  -- a signal and the first of its class
  first_same : (v : ℕ) → v < n → eqb (get_or ids (first g v) 0) (get_or ids v 0) ≡ same (first g v) v
  first_same v l =
      let r = first_is g v (omega arith) in
      bool_iff (eqb (get_or ids (first g v) 0) (get_or ids v 0)) (same (first g v) v)
      (λ t. sym (same_is (first g v) v (omega (arith, r.1)) l) ∙ (same_iff g ids (first g v) v).1 (r.0, eqb-true _ _ t))
      (λ t. eq-eqb _ _ ((same_iff g ids (first g v) v).0 (same_is (first g v) v (omega (arith, r.1)) l ∙ t)).1)

  fault_is_lem : fault_by g ids ≡ least_from 0 n (λ v. not (same (first g v) v))
  unfolding fault_by differs
  fault_is_lem = rw long (least_ext n _ _ (λ v l. ap not (first_same v l)))

  split_is : split_by g ids ≡ grouping n same
  unfolding split_by
  split_is = rw long (grouping_ext (same_by g ids) same n same_is)

-- ## Start and Step

module _ (A B : Sheet) where
  pub start_fault_lem : (g ids : List ℕ) → length g ≡ total A B → Tells g ids (StartEqual A B) → fault_by g ids ≡ start_fault A B g
  unfolding start_fault
  start_fault_lem g ids long = fault_is_lem g ids (total A B) long (StartEqual A B) (start_same A B g) (start_iff A B g)

  pub step_fault_lem : (g ids : List ℕ) → length g ≡ total A B → Tells g ids (StepEqual A B g) → fault_by g ids ≡ step_fault A B g
  unfolding step_fault
  step_fault_lem g ids long = fault_is_lem g ids (total A B) long (StepEqual A B g) (step_same A B g) (step_iff A B g long)

  pub start-split : (p ids : List ℕ) → length p ≡ total A B → Tells p ids (StartEqual A B) → split_by p ids ≡ T A B p 0
  unfolding T
  start-split p ids long = split_is p ids (total A B) long (StartEqual A B) (start_same A B p) (start_iff A B p)

  pub step-next : (g ids : List ℕ) → length g ≡ total A B → Tells g ids (StepEqual A B g) → split_by g ids ≡ grouping (total A B) (step_same A B g)
  step-next g ids long = split_is g ids (total A B) long (StepEqual A B g) (step_same A B g) (step_iff A B g long)

  pub step-split : (p ids : List ℕ) (i : ℕ) → Tells (T A B p i) ids (StepEqual A B (T A B p i)) → split_by (T A B p i) ids ≡ T A B p (suc i)
  unfolding T
  step-split p ids i = step-next (T A B p i) ids (length-T A B p i)

  -- every class number of T_i is below n
  pub T_below : (p : List ℕ) (i v : ℕ) → v < total A B → get_or (T A B p i) v 0 < total A B
  unfolding T
  T_below p zero v l = grouping_below (start_same A B p) (total A B) v l
  T_below p (suc i) v l = grouping_below (step_same A B (T A B p i)) (total A B) v l
