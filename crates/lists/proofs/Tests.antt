-- Start and Step of two signals, told by their trees. Assumes nothing.
use mathlib.Core.Path.{◌≡◌}
use mathlib.Core.Bool.{Bool, true, false, not, ◌&&◌, ◌||◌, beq}
use mathlib.Core.List.{List, ◌++◌}
use mathlib.Core.Logic.{◌↔◌}
use Prim.Native.Nat.{ℕ}
use lib.ListN.{length, replicate, length-replicate}
use lib.Dec.{eqb}
use borrow.Author.Tests.{eqb-true, eq-eqb}
use Rattle.meaning.specs.Basic.{bit, every}
use Rattle.meaning.specs.Sheet.{Sheet}
use Rattle.meaning.specs.Joint.{class, regs, ins, total, variables, x_of, h_next, Q, start_same, step_same}
use Rattle.laws.proofs.Basic.{bool_iff, and_left, and_right, and_both, beq-eq, every_all}
use Rattle.promises.specs.Correspondence.{StartEqual, StepEqual}
use Rattle.promises.proofs.Joint.{size_of, x_of_lem, length_x}
use Rattle.promises.proofs.Tests.{start_iff, step_iff}
use Rattle.tree.specs.Function.{tree_for}
use Rattle.tree.proofs.Function.{for_same}
use Rattle.tree.proofs.Equal.{equal_iff, equal_under_iff}
use Rattle.lists.specs.Lists.{start, next, tree, state_at, inputs_at, h_at, timesQ}
use Rattle.lists.proofs.Trees.{times_tree_lem}

-- two functions have one tree exactly when they agree at all assignments of the variables
pub agree_iff : (m : ℕ) (f g : List Bool → Bool) → (tree_for m f ≡ tree_for m g) ↔ ((e : List Bool) → length e ≡ m → f e ≡ g e)
agree_iff m f g = ((λ t e l. beq-eq _ _ (every_all m (λ e. beq (f e) (g e)) ((equal_iff m f g).0 t) e l)), for_same m f g)

-- a test for one class and P, where d tells whether P holds
told : (g : List ℕ) (u v : ℕ) (d s : Bool) (P : Type 0) → (d ≡ true) ↔ P → (s ≡ true) ↔ ((class g u ≡ class g v) × P)
    → s ≡ eqb (class g u) (class g v) && d
told g u v d s P by is =
    let c = eqb (class g u) (class g v) in
    bool_iff s (c && d)
    (λ t. let p = is.0 t in and_both c d (eq-eqb _ _ p.0) (by.1 p.1))
    (λ t. is.1 (eqb-true _ _ (and_left c d t), by.0 (and_right c d t)))

module _ (A B : Sheet) where
  -- ## Start

  pub start-tree : (u v : ℕ) → StartEqual A B u v ↔ (tree A B (h_at A B start u) ≡ tree A B (h_at A B start v))
  unfolding StartEqual h_at state_at inputs_at
  start-tree u v = (
    (λ q. (agree_iff (variables A B) _ _).1 (λ e l. q (x_of A B e) (length_x A B e l))),
    (λ t x l.
        let s = replicate (regs A B) false in
        let y = replicate (ins A B) false in
        let z = (agree_iff (variables A B) (h_at A B start u) (h_at A B start v)).0 t (s ++ (x ++ y)) (size_of A B s x y (length-replicate _ _) l (length-replicate _ _)) in
        rw (x_of_lem A B s x y (length-replicate _ _) l) at z),
  )

  pub start_same_lem : (g : List ℕ) (u v : ℕ)
      → (start_same A B g u v ≡ true) ↔ ((class g u ≡ class g v) × (tree A B (h_at A B start u) ≡ tree A B (h_at A B start v)))
  start_same_lem g u v = (
    (λ t. let p = (start_iff A B g u v).0 t in (p.0, (start-tree u v).0 p.1)),
    (λ p. (start_iff A B g u v).1 (p.0, (start-tree u v).1 p.1)),
  )

  -- ## Step

  pub step_same_lem : (g : List ℕ) (u v : ℕ)
      → (step_same A B g u v ≡ true) ↔ ((class g u ≡ class g v) × (tree A B (timesQ A B g u) ≡ tree A B (timesQ A B g v)))
  unfolding step_same h_next h_at state_at inputs_at
  step_same_lem g u v =
      let c = eqb (class g u) (class g v) in
      let s = every (variables A B) (λ e. not (Q A B g e) || beq (bit (h_next A B e) u) (bit (h_next A B e) v)) in
      let under = equal_under_iff (variables A B) (Q A B g) (h_at A B next u) (h_at A B next v) in (
        (λ t. (eqb-true _ _ (and_left c s t), rw (times_tree_lem A B g u, times_tree_lem A B g v) (under.1 (and_right c s t)))),
        (λ p. and_both c s (eq-eqb _ _ p.0) (under.0 (rw (times_tree_lem A B g u, times_tree_lem A B g v) at p.1))),
      )

  pub step-tree : (g : List ℕ) → length g ≡ total A B → (u v : ℕ) → class g u ≡ class g v
      → StepEqual A B g u v ↔ (tree A B (timesQ A B g u) ≡ tree A B (timesQ A B g v))
  step-tree g k u v c = (
    (λ q. ((step_same_lem g u v).0 ((step_iff A B g k u v).1 (c, q))).1),
    (λ t. ((step_iff A B g k u v).0 ((step_same_lem g u v).1 (c, t))).1),
  )

  -- ## Both computed from class numbers and from whatever tells the trees apart

  module _ (g : List ℕ) (u v : ℕ) (d : Bool) where
    pub start_test : (d ≡ true) ↔ (tree A B (h_at A B start u) ≡ tree A B (h_at A B start v)) → start_same A B g u v ≡ eqb (class g u) (class g v) && d
    start_test by = told g u v d _ _ by (start_same_lem g u v)

    pub step_test : (d ≡ true) ↔ (tree A B (timesQ A B g u) ≡ tree A B (timesQ A B g v)) → step_same A B g u v ≡ eqb (class g u) (class g v) && d
    step_test by = told g u v d _ _ by (step_same_lem g u v)
