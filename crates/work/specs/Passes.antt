-- A pass over one sheet: the trees of its signals at a moment, and what is asked to make them in the table. Assumes nothing.
use Rattle.std.specs.Prelude.{◌≡◌, Bool, true, false, List, ℕ, ◌+◌, ◌-◌, ◌<◌, ◌≤◌, length, get_or, take, Result}
use Rattle.arrayvec.specs.ArrayVec.{array_vec_len}
use Rattle.meaning.specs.Numbers.{NOT, AND}
use Rattle.meaning.specs.Sheet as paper
use Rattle.meaning.specs.Joint.{total, variables}
use Rattle.tree.specs.Tree.{Tree, leaf, glue, combine_tree}
use Rattle.lists.specs.Lists as lists
use Rattle.lists.specs.Recipes.{tree_of, Side, Compatible, sheet_on, signals_before, registers_before, inputs_before}
use Rattle.sheet.specs.declared.kind.Kind.{Kind}
use Rattle.sheet.specs.declared.kind.Kind.TheVariants.{Input, Register, Not, And, Or, Xor}
use Rattle.sheet.specs.declared.Sheet.{Sheet}
use Rattle.sheet.specs.declared.Signal.{Signal}
use Rattle.sheet.specs.Stored.{number_of_kind, signal_of, sheet_of, Whole}
use Rattle.diagram.specs.declared.Full.{Full}
use Rattle.diagram.specs.declared.Head.{Head}
use Rattle.diagram.specs.declared.Op.{Op}
use Rattle.diagram.specs.Operation.{op_of}
use Rattle.diagram.specs.Contract.{Gives, Ready, Under}
use Rattle.fill.specs.Work.{Stand, Fills}
use Rattle.fill.specs.Trees.{map_trees, trees_at}
use Rattle.work.specs.declared.pass.Moment.{Moment}
use Rattle.work.specs.declared.pass.Moment.TheVariants.{Start, Now, Next}
use Rattle.work.specs.declared.pass.Pass.{Pass}

unfoldable pub moment_of : Moment → lists.Moment
moment_of Start = lists.start
moment_of Now = lists.now
moment_of (Next now) = lists.next

-- ## One signal

-- the tree of a variable, by its height
abbrev pub variable_at : ℕ → Tree
variable_at v = glue v (leaf false) (leaf true)

-- a register with its initial value and source, over the trees of the words of an array: a constant, the next variable, or the source now
unfoldable pub register_in : Moment → Pass → (List ℕ → ℕ → Tree) → Bool → ℕ → Tree
register_in Start p trees b s = leaf b
register_in Now p trees b s = variable_at p.register
register_in (Next now) p trees b s = trees now.now (p.before + s)

-- a signal, over the trees of the words of an array, and the ids of f at the pass's own moment
unfoldable pub signal_in : Pass → (List ℕ → ℕ → Tree) → List ℕ → Signal → Tree
signal_in p trees own x = tree_of (signal_of x) (variable_at p.input) (register_in p.moment p trees) (λ a. trees own (p.before + a))

-- the pass after a signal of a kind
unfoldable pub passed : Pass → Kind → Pass
passed p Input = record { moment = p.moment; register = p.register; input = p.input - 1; before = p.before; left = p.left }
passed p Register = record { moment = p.moment; register = p.register - 1; input = p.input; before = p.before; left = p.left }
passed p Not = p
passed p And = p
passed p Or = p
passed p Xor = p

-- ## Where a pass begins

-- the height of a moment's first input, of i inputs
unfoldable pub top_of_input : Moment → ℕ → ℕ
top_of_input Start i = i + i
top_of_input Now i = i + i
top_of_input (Next now) i = i

-- with so many variable levels and inputs, and so many registers and signals on the sides before
unfoldable pub pass_of : Moment → ℕ → ℕ → ℕ → ℕ → Pass
pass_of t levels inputs registers signals =
    record { moment = t; register = levels - registers; input = top_of_input t inputs; before = signals; left = levels }

-- ## What one signal asks and says: own has the ids of the lower signals at the pass's own moment

-- an operand: a lower signal, whose id stands in its place
pub record Operand (p : Pass) (w : List ℕ) (n : ℕ) (ids : List ℕ) (k : ℕ) : Type 0 where
  pub place : p.before + k < length ids
  pub under : Under w n (get_or ids (p.before + k) 0) p.left

unfoldable pub RegisterAsks : Moment → Pass → Signal → List ℕ → ℕ → Type 0
RegisterAsks Start p x w n = x.a ≤ 1
RegisterAsks Now p x w n = (0 < p.register) × (p.register < 65536)
RegisterAsks (Next now) p x w n = Operand p w n now.now x.b

pub record GateAsks (p : Pass) (x : Signal) (w : List ℕ) (a : Head) (own : List ℕ) : Type 0 where
  pub ready : Ready w a
  pub first : Operand p w a.used own x.a
  pub second : Operand p w a.used own x.b

pub record SignalAsks (p : Pass) (x : Signal) (w : List ℕ) (a : Head) (own : List ℕ) : Type 0 where
  pub ready : Ready w a
  pub input : x.kind ≡ Input → (0 < p.input) × (p.input < 65536)
  pub register : x.kind ≡ Register → RegisterAsks p.moment p x w a.used
  pub first : NOT ≤ number_of_kind x.kind → Operand p w a.used own x.a
  pub second : AND ≤ number_of_kind x.kind → Operand p w a.used own x.b

-- the table, of the words w and the head a, is u and b afterwards
abbrev pub GateSays : Pass → Op → Signal → List ℕ → Head → List ℕ → List ℕ → Head → Result ℕ Full → Type 0
GateSays p op x w a own u b z =
    Gives w a (combine_tree (op_of op) (trees_at w a.used own (p.before + x.a)) (trees_at w a.used own (p.before + x.b))) u b z

abbrev pub SignalSays : Pass → Signal → List ℕ → Head → List ℕ → List ℕ → Head → Result ℕ Full → Type 0
SignalSays p x w a own u b z = Gives w a (signal_in p (trees_at w a.used) own x) u b z

-- ## A side of two sheets

module _ (A B : paper.Sheet) where
  -- the trees of f and of h of the joint list
  abbrev pub f_tree : lists.Moment → ℕ → Tree
  f_tree t v = lists.tree A B (lists.f_at A B t v)

  abbrev pub h_tree : lists.Moment → ℕ → Tree
  h_tree t v = lists.tree A B (lists.h_at A B t v)

  -- f of the signals of a side
  abbrev pub side_tree : lists.Moment → Side → ℕ → Tree
  side_tree t d v = f_tree t (signals_before A B d + v)

  -- the pass over a side, before its signal v
  unfoldable pub pass_at : Moment → Side → ℕ → Pass
  pass_at t d v =
      let seen = take v (sheet_on A B d).signals in
      record {
        moment = t;
        register = variables A B - (registers_before A B d + paper.registers seen);
        input = variables A B - (inputs_before A B (moment_of t) + paper.inputs seen);
        before = signals_before A B d;
        left = variables A B;
      }

  -- one tick on, the ids of all f now are known
  unfoldable pub Earlier : Moment → List ℕ → ℕ → Type 0
  Earlier Start w n = Unit {0}
  Earlier Now w n = Unit {0}
  Earlier (Next now) w n = (length now.now ≡ total A B) × Stand w n now.now 0 (map_trees (f_tree lists.now) (total A B))

-- the stored sheet s is on the side d of A and B, and the pass p is at its first signal
pub record SideAsks (A B : paper.Sheet) (d : Side) (p : Pass) (s : Sheet) (w : List ℕ) (a : Head) (places : ℕ) : Type 0 where
  pub ready : Ready w a
  pub compatible : Compatible A B
  pub whole : Whole s
  pub side : sheet_of s ≡ sheet_on A B d
  pub begins : p ≡ pass_at A B p.moment d 0
  pub levels : variables A B < 65536
  pub places_for : total A B ≤ places
  pub earlier : Earlier A B p.moment w a.used

unfoldable pub SheetAsks : Pass → Sheet → List ℕ → Head → ℕ → Type 0
SheetAsks p s w a places = (A : paper.Sheet) × (B : paper.Sheet) × (d : Side) × SideAsks A B d p s w a places

-- whichever two sheets s is a side of: the ids of f of its signals stand from the joint number of the first of them on
unfoldable pub SheetSays : Pass → Sheet → List ℕ → Head → List ℕ → List ℕ → Head → List ℕ → Result (Unit {0}) Full → Type 0
SheetSays p s w a old u b ids z =
    (A B : paper.Sheet) (d : Side) → SideAsks A B d p s w a (length old)
    → Fills w a (map_trees (side_tree A B (moment_of p.moment) d) (array_vec_len s.signals)) old (signals_before A B d) u b ids z
