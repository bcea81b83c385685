-- Step of any two signals, told by the trees of their products with Q. Assumes nothing.
use mathlib.Core.Path.{◌≡◌, refl}
use mathlib.Core.Bool.{Bool, true, false, ◌&&◌}
use mathlib.Core.List.{List, ◌++◌}
use mathlib.Core.Logic.{◌↔◌}
use Prim.Native.Nat.{ℕ}
use lib.ListN.{length}
use Rattle.meaning.specs.Sheet.{Sheet}
use Rattle.meaning.specs.Joint.{total, variables, state_of, x_of, y_of, Q}
use Rattle.promises.specs.Correspondence.{StepEqual}
use Rattle.promises.proofs.Joint.{size_of, state_of_lem, x_of_lem, y_of_lem, length_state, length_x, length_y}
use Rattle.promises.proofs.Tests.{Q_conforms, conforms_Q}
use Rattle.lists.specs.Lists.{next, tree, state_at, inputs_at, h_at, timesQ}
use Rattle.lists.proofs.Tests.{agree_iff}

-- products with q agree where their other factors agree wherever q holds
product_under : (q a b : Bool) → (q ≡ true → a ≡ b) → q && a ≡ q && b
product_under true a b h = h refl
product_under false a b h = refl

module _ (A B : Sheet) (g : List ℕ) (k : length g ≡ total A B) (u v : ℕ) where
  step_trees_lem : StepEqual A B g u v → tree A B (timesQ A B g u) ≡ tree A B (timesQ A B g v)
  unfolding StepEqual timesQ h_at state_at inputs_at
  step_trees_lem s = (agree_iff (variables A B) _ _).1 (λ e l.
      product_under (Q A B g e) _ _ (λ q.
      s (state_of A B e) (x_of A B e) (y_of A B e) (length_state A B e l) (length_x A B e l) (length_y A B e l) (Q_conforms A B g e k q)))

  trees_step : tree A B (timesQ A B g u) ≡ tree A B (timesQ A B g v) → StepEqual A B g u v
  unfolding StepEqual timesQ h_at state_at inputs_at
  trees_step t s x y p q o c =
      let e = s ++ (x ++ y) in
      let holds : Q A B g e ≡ true = conforms_Q A B g e k (rw (state_of_lem A B s x y p, x_of_lem A B s x y p q) c) in
      let same : timesQ A B g u e ≡ timesQ A B g v e = (agree_iff (variables A B) _ _).0 t e (size_of A B s x y p q o) in
      let next-same : h_at A B next u e ≡ h_at A B next v e = rw holds at same in
      rw (state_of_lem A B s x y p, x_of_lem A B s x y p q, y_of_lem A B s x y p q) at next-same

  pub step_told : StepEqual A B g u v ↔ (tree A B (timesQ A B g u) ≡ tree A B (timesQ A B g v))
  step_told = (step_trees_lem, trees_step)
