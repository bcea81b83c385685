-- How each f of the joint list is made: of a variable, a constant, or functions before it. Assumes nothing.
use Rattle.std.specs.Prelude.{◌≡◌, Bool, true, false, not, List, ℕ, ◌+◌, ◌-◌, length, get_or, take, drop}
use Rattle.meaning.specs.Basic.{bit}
use Rattle.meaning.specs.Sheet.{Gate, Signal, input, register, inverter, gate, Sheet, inputs, registers}
use Rattle.meaning.specs.Tick.{gate_value}
use Rattle.meaning.specs.Joint.{regsA, regs, ins, variables}
use Rattle.promises.specs.Proper.{Proper}
use Rattle.tree.specs.Tree.{Tree, leaf, glue, combine_tree, complement_tree}
use Rattle.lists.specs.Lists.{Moment, start, now, next, tree, f_at}

-- ## One signal

-- A signal made of others, be they values or trees: an input is x, a register is what r says of its initial value and its source, an
-- inverter and a gate are made of their operands.
unfoldable pub made {ℓ} : {X : Type ℓ} → (X → X) → (Gate → X → X → X) → Signal → X → (Bool → ℕ → X) → (ℕ → X) → X
made flip join (input p) x r val = x
made flip join (register b s) x r val = r b s
made flip join (inverter a) x r val = flip (val a)
made flip join (gate g a b) x r val = join g (val a) (val b)

-- its value of values, and its tree of trees
abbrev pub value_of : Signal → Bool → (Bool → ℕ → Bool) → (ℕ → Bool) → Bool
value_of = made not gate_value

abbrev pub tree_of : Signal → Tree → (Bool → ℕ → Tree) → (ℕ → Tree) → Tree
tree_of = made complement_tree (λ g. combine_tree (gate_value g))

abbrev pub nth_signal : List Signal → ℕ → Signal
nth_signal ss v = get_or ss v (input 0)

-- the tree of variable i of m: the leading variable has the greatest height
abbrev pub variable_tree : ℕ → ℕ → Tree
variable_tree m i = glue (m - i) (leaf false) (leaf true)

-- ## Two sheets

-- A's part of the joint list, and B's
pub data Side : Type 0 where
  left right : Side

-- two proper sheets with as many inputs
pub record Compatible (A B : Sheet) : Type 0 where
  pub left_proper : Proper A
  pub right_proper : Proper B
  pub like_inputs : inputs A.signals ≡ inputs B.signals

module _ (A B : Sheet) where
  abbrev pub sheet_on : Side → Sheet
  sheet_on left = A
  sheet_on right = B

  -- what a side's registers hold in a joint state
  unfoldable pub state_on : Side → List Bool → List Bool
  state_on left s = take (regsA A B) s
  state_on right s = drop (regsA A B) s

  -- how many joint signals stand before those of a side
  abbrev pub signals_before : Side → ℕ
  signals_before left = 0
  signals_before right = length A.signals

  -- how many variables stand before those of its registers, and before those of the inputs of a moment
  abbrev pub registers_before : Side → ℕ
  registers_before left = 0
  registers_before right = regsA A B

  abbrev pub inputs_before : Moment → ℕ
  inputs_before start = regs A B
  inputs_before now = regs A B
  inputs_before next = regs A B + ins A B

  -- Register r of a side, with its initial value and source: at the start the initial value, now a variable, one tick on the source now.
  unfoldable pub register_at : Moment → Side → ℕ → Bool → ℕ → List Bool → Bool
  register_at start d r b s e = b
  register_at now d r b s e = bit e (registers_before d + r)
  register_at next d r b s e = f_at A B now (signals_before d + s) e

  unfoldable pub register_tree : Moment → Side → ℕ → Bool → ℕ → Tree
  register_tree start d r b s = leaf b
  register_tree now d r b s = variable_tree (variables A B) (registers_before d + r)
  register_tree next d r b s = tree A B (f_at A B now (signals_before d + s))

  -- signal v of a side at a moment, as a function and as a tree
  unfoldable pub recipe : Moment → Side → ℕ → List Bool → Bool
  recipe t d v e =
      let ss = (sheet_on d).signals in
      value_of (nth_signal ss v) (bit e (inputs_before t + inputs (take v ss)))
      (λ b s. register_at t d (registers (take v ss)) b s e)
      (λ a. f_at A B t (signals_before d + a) e)

  unfoldable pub recipe_tree : Moment → Side → ℕ → Tree
  recipe_tree t d v =
      let ss = (sheet_on d).signals in
      tree_of (nth_signal ss v) (variable_tree (variables A B) (inputs_before t + inputs (take v ss)))
      (register_tree t d (registers (take v ss)))
      (λ a. tree A B (f_at A B t (signals_before d + a)))
