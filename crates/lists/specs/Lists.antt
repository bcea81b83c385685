-- The functions of the start list and of the step list, by name. Assumes nothing.
use Rattle.std.specs.Prelude.{◌≡◌, Bool, true, ◌&&◌, List, ℕ, zero, suc, ◌<◌, ltb, if◌then◌else◌}
use Rattle.std.specs.Bool.{beq}
use Rattle.meaning.specs.Basic.{bit}
use Rattle.meaning.specs.Sheet.{Sheet}
use Rattle.meaning.specs.Joint.{first, total, variables, f, h, s0, after, state_of, x_of, y_of, Q}
use Rattle.tree.specs.Tree.{Tree}
use Rattle.tree.specs.Function.{tree_for}

-- The joint list is looked at in the initial state under x, now at (s, x), and one tick on, at the state after (s, x) under y.
pub data Moment : Type 0 where
  start now next : Moment

-- v isn't first in its class
unfoldable pub not_first : List ℕ → ℕ → Bool
not_first g v = ltb (first g v) v

module _ (A B : Sheet) where
  -- the tree of a function of the variables
  abbrev pub tree : (List Bool → Bool) → Tree
  tree = tree_for (variables A B)

  -- the joint state and the inputs of a moment, at an assignment of the variables
  unfoldable pub state_at : Moment → List Bool → List Bool
  state_at start e = s0 A B
  state_at now e = state_of A B e
  state_at next e = after A B (state_of A B e) (x_of A B e)

  unfoldable pub inputs_at : Moment → List Bool → List Bool
  inputs_at start e = x_of A B e
  inputs_at now e = x_of A B e
  inputs_at next e = y_of A B e

  -- f and h of the joint signal v, as functions of the variables
  unfoldable pub f_at : Moment → ℕ → List Bool → Bool
  f_at t v e = bit (f A B (state_at t e) (inputs_at t e)) v

  unfoldable pub h_at : Moment → ℕ → List Bool → Bool
  h_at t v e = bit (h A B (state_at t e) (inputs_at t e)) v

  module _ (g : List ℕ) where
    -- "h_first equals h_v"
    unfoldable pub match_at : ℕ → List Bool → Bool
    match_at v e = beq (h_at now (first g v) e) (h_at now v e)

    -- the product of these for the signals before v that aren't first in their class
    unfoldable pub product_to : ℕ → List Bool → Bool
    product_to zero e = true
    product_to (suc v) e = if not_first g v then product_to v e && match_at v e else product_to v e

    -- Q times the normalised function one tick on
    unfoldable pub timesQ : ℕ → List Bool → Bool
    timesQ v e = Q A B g e && h_at next v e

-- The start list: all f at s0, then all h at s0.
pub data StartFun (A B : Sheet) : (List Bool → Bool) → Type 0 where
  f-start : (v : ℕ) → v < total A B → StartFun A B (f_at A B start v)
  h-start : (v : ℕ) → v < total A B → StartFun A B (h_at A B start v)

-- The step list of a grouping: all f; all h; for each v that isn't first in its class, "h_first equals h_v" and the running product of
-- these; all f one tick on; the same normalised; Q times each normalised one.
pub data StepFun (A B : Sheet) (g : List ℕ) : (List Bool → Bool) → Type 0 where
  f-now : (v : ℕ) → v < total A B → StepFun A B g (f_at A B now v)
  h-now : (v : ℕ) → v < total A B → StepFun A B g (h_at A B now v)
  equality : (v : ℕ) → v < total A B → not_first g v ≡ true → StepFun A B g (match_at A B g v)
  product : (v : ℕ) → v < total A B → not_first g v ≡ true → StepFun A B g (product_to A B g (suc v))
  f-next : (v : ℕ) → v < total A B → StepFun A B g (f_at A B next v)
  h-next : (v : ℕ) → v < total A B → StepFun A B g (h_at A B next v)
  times_Q : (v : ℕ) → v < total A B → StepFun A B g (timesQ A B g v)
