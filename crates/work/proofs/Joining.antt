-- f of the joint list: the pass over A, then the pass over B. Assumes nothing.
use Rattle.std.specs.Prelude.{Result, Ok, Err}
use mathlib.Core.Path.{◌≡◌, refl, sym, ap, ◌∙◌}
use mathlib.Core.List.{List, ◌++◌}
use Prim.Native.Nat.{ℕ, ◌+◌, ◌-◌, ◌*◌, ◌≤◌}
use native.Mathlib.Omega.{arith}
use native.Mathlib.Nat.{zero-add}
use lib.ListN.{length}
use Rattle.arrayvec.specs.ArrayVec.{array_vec_len}
use Rattle.meaning.specs.Numbers.{max_inputs, max_registers, max_signals}
use Rattle.meaning.specs.Basic.{keep}
use Rattle.meaning.specs.Sheet as paper
use Rattle.meaning.specs.Joint.{regsA, regs, ins, total, variables}
use Rattle.tree.specs.Tree.{Tree}
use Rattle.lists.specs.Lists as lists
use Rattle.lists.specs.Recipes as recipes
use Rattle.lists.specs.Recipes.{Side, sheet_on, signals_before, registers_before, inputs_before}
use Rattle.sheet.specs.declared.Sheet.{Sheet}
use Rattle.sheet.specs.Stored.{sheet_of, Whole}
use Rattle.sheet.proofs.Whole.{length_signals}
use Rattle.diagram.specs.declared.Full.{Full}
use Rattle.diagram.specs.declared.Head.{Head}
use Rattle.diagram.specs.Contract.{Ready, Keeps}
use Rattle.diagram.proofs.Grown.{keeps_all}
use Rattle.fill.specs.Work.{Misses, Filled, Fills}
use Rattle.fill.specs.Trees.{map_trees}
use Rattle.fill.proofs.Parts.{part_left}
use Rattle.fill.proofs.Gains.{gains_ready, misses_wider, stand_kept}
use Rattle.fill.proofs.MapTrees.{length-map, map-append, map_same}
use Rattle.fill.proofs.Filled.{fills_after}
use Rattle.work.specs.declared.Pair.{Pair}
use Rattle.work.specs.declared.pass.Moment.{Moment}
use Rattle.work.specs.declared.pass.Moment.TheVariants.{Start, Now, Next}
use Rattle.work.specs.declared.pass.Pass.{Pass}
use Rattle.work.specs.Lists.{left, right, joint, Alike}
use Rattle.work.specs.Passes.{moment_of, top_of_input, pass_of, f_tree, side_tree, pass_at, Earlier, SideAsks, SheetAsks, SheetSays}
use Rattle.work.specs.Stages.{f_trees, JointAsks}
use Rattle.work.proofs.Proper.{alike_compatible}

-- what is known one tick on stays known
earlier_kept : (A B : paper.Sheet) (t : Moment) {w : List ℕ} {n : ℕ} {u : List ℕ} {m : ℕ} → Keeps w n u m → Earlier A B t w n → Earlier A B t u m
unfolding Earlier
earlier_kept A B Start k e = tt
earlier_kept A B Now k e = tt
earlier_kept A B (Next now) k e = (e.0, stand_kept k e.1)

-- A's signals, then B's, are the joint list
sides_joined : (A B : paper.Sheet) (m : lists.Moment) (i j : ℕ) → length A.signals ≡ i → length B.signals ≡ j
    → map_trees (side_tree A B m recipes.left) i ++ map_trees (side_tree A B m recipes.right) j ≡ f_trees A B m
unfolding total
sides_joined A B m i j ei ej =
    rw (← ei, ← ej)
    (ap (λ (ts : List Tree). ts ++ map_trees (side_tree A B m recipes.right) (length B.signals))
    (map_same (side_tree A B m recipes.left) (f_tree A B m) (length A.signals) (λ v l. ap (f_tree A B m) (zero-add v)))
    ∙ sym (map-append (f_tree A B m) (length A.signals) (length B.signals)))

-- ## Counts of a pair

module _ (p : Pair) (alike : Alike p) where
  abbrev A : paper.Sheet
  A = left p

  abbrev B : paper.Sheet
  B = right p

  pub levels_are : variables A B ≡ p.a.registers + p.b.registers + p.a.inputs + p.a.inputs
  unfolding variables regs ins left right
  levels_are = omega (arith, alike.whole_a.kept.registers, alike.whole_b.kept.registers, alike.whole_a.kept.inputs)

  levels_few : variables A B ≤ 2 * max_registers + 2 * max_inputs
  levels_few = omega (arith, levels_are, alike.whole_a.kept.few_registers, alike.whole_b.kept.few_registers, alike.whole_a.kept.few_inputs)

  size_A : length A.signals ≡ array_vec_len p.a.signals
  unfolding left
  size_A = length_signals p.a

  size_B : length B.signals ≡ array_vec_len p.b.signals
  unfolding right
  size_B = length_signals p.b

  joint_is : joint p ≡ array_vec_len p.a.signals + array_vec_len p.b.signals
  unfolding joint total
  joint_is = omega (arith, size_A, size_B)

  pub joint_few : joint p ≤ 2 * max_signals
  joint_few = omega (arith, joint_is, alike.whole_a.kept.few_signals, alike.whole_b.kept.few_signals)

  -- ## Where the two passes begin

  input-height : (t : Moment) → top_of_input t p.a.inputs ≡ variables A B - (inputs_before A B (moment_of t) + 0)
  unfolding top_of_input moment_of variables regs ins left
  input-height Start = omega (arith, alike.whole_a.kept.inputs)
  input-height Now = omega (arith, alike.whole_a.kept.inputs)
  input-height (Next now) = omega (arith, alike.whole_a.kept.inputs)

  pass_same : (t : Moment) (d : Side) (registers signals : ℕ) → registers ≡ registers_before A B d → signals ≡ signals_before A B d
      → pass_of t (variables A B) p.a.inputs registers signals ≡ pass_at A B t d 0
  unfolding pass_of pass_at paper.registers paper.inputs keep
  pass_same t d registers signals er es =
      let e : registers + 0 ≡ registers = omega arith in
      rw (input-height t, es, ← er, e)

  -- A's registers are passed over before B's
  registers_A : p.a.registers ≡ regsA A B
  unfolding regsA left
  registers_A = alike.whole_a.kept.registers

-- ## The two passes

-- lv are the variable levels, counted
module _ {p : Pair} {t : Moment} {w : List ℕ} {a : Head} (old : List ℕ) (asks : JointAsks p t w a (length old))
    {lv : ℕ} (counted : lv ≡ variables (left p) (right p)) where
  abbrev sides : lists.Moment → Side → ℕ → Tree
  sides = side_tree (left p) (right p)

  module _ (d : Side) (q : Pass) (s : Sheet) (begins : q ≡ pass_at (left p) (right p) t d 0) where
    same_moment : q.moment ≡ t
    unfolding pass_at
    same_moment = ap (λ (y : Pass). y.moment) begins

    side_asks : (u : List ℕ) (b : Head) (ids : List ℕ) → Ready u b → Keeps w a.used u b.used → length ids ≡ length old
        → Whole s → sheet_of s ≡ sheet_on (left p) (right p) d → SideAsks (left p) (right p) d q s u b (length ids)
    unfolding joint
    side_asks u b ids ready keeps size whole side = record {
      ready = ready;
      compatible = alike_compatible p asks.alike;
      whole = whole;
      side = side;
      begins = begins ∙ ap (λ (m : Moment). pass_at (left p) (right p) m d 0) (sym same_moment);
      levels = omega (arith, levels_few p asks.alike);
      places_for = omega (arith, asks.sized);
      earlier = rw same_moment (earlier_kept (left p) (right p) t keeps asks.earlier);
    }

    side_fills : (u : List ℕ) (b : Head) (ids u' : List ℕ) (c : Head) (ids' : List ℕ) (z : Result (Unit {0}) Full) → SideAsks (left p) (right p) d q s u b (length ids) → SheetSays q s u b ids u' c ids' z
        → Fills u b (map_trees (sides (moment_of t) d) (array_vec_len s.signals)) ids (signals_before (left p) (right p) d) u' c ids' z
    unfolding SheetSays
    side_fills u b ids u' c ids' z k says = rw same_moment at (says (left p) (right p) d k)

  joined : (m : lists.Moment) → map_trees (sides m recipes.left) (array_vec_len p.a.signals) ++ map_trees (sides m recipes.right) (array_vec_len p.b.signals) ≡ f_trees (left p) (right p) m
  joined m = sides_joined (left p) (right p) m _ _ (size_A p asks.alike) (size_B p asks.alike)

  module _ {q : Pass} (first : q ≡ pass_of t lv p.a.inputs 0 0) where
    begins_A : q ≡ pass_at (left p) (right p) t recipes.left 0
    begins_A = first ∙ rw counted (pass_same p asks.alike t recipes.left 0 0 refl refl)

    asks_A : SideAsks (left p) (right p) recipes.left q p.a w a (length old)
    unfolding left
    asks_A = side_asks recipes.left q p.a begins_A w a old asks.ready (keeps_all w a.used) refl asks.alike.whole_a refl

    pub first_asks : SheetAsks q p.a w a (length old)
    unfolding SheetAsks
    first_asks = (left p, right p, recipes.left, asks_A)

    module _ (u : List ℕ) (b : Head) (ids : List ℕ) where
      fills_A : (z : Result (Unit {0}) Full) → SheetSays q p.a w a old u b ids z → Fills w a (map_trees (sides (moment_of t) recipes.left) (array_vec_len p.a.signals)) old 0 u b ids z
      fills_A z says = side_fills recipes.left q p.a begins_A w a old u b ids z asks_A says

      pub joint_over : (full : Full) → SheetSays q p.a w a old u b ids (Err full) → Fills w a (f_trees (left p) (right p) (moment_of t)) old 0 u b ids (Err full)
      unfolding Fills
      joint_over full says =
          let m : Misses w a (map_trees (sides (moment_of t) recipes.left) (array_vec_len p.a.signals)) u b × (full.head ≡ b) = fills_A (Err full) says in
          rw (← joined (moment_of t)) (misses_wider _ (λ s q. part_left (map_trees (sides (moment_of t) recipes.right) (array_vec_len p.b.signals)) q) m.0, m.1)

      module _ (says : SheetSays q p.a w a old u b ids (Ok tt)) {q' : Pass} (second : q' ≡ pass_of t lv p.a.inputs p.a.registers (array_vec_len p.a.signals)) where
        filled_A : Filled w a (map_trees (sides (moment_of t) recipes.left) (array_vec_len p.a.signals)) old 0 u b ids
        unfolding Fills
        filled_A = fills_A (Ok tt) says

        begins_B : q' ≡ pass_at (left p) (right p) t recipes.right 0
        begins_B = second ∙ rw counted
            (pass_same p asks.alike t recipes.right p.a.registers (array_vec_len p.a.signals) (registers_A p asks.alike) (sym (size_A p asks.alike)))

        asks_B : SideAsks (left p) (right p) recipes.right q' p.b u b (length ids)
        unfolding right
        asks_B =
            side_asks recipes.right q' p.b begins_B u b ids (gains_ready filled_A.gains) filled_A.gains.keeps filled_A.frame.size
            asks.alike.whole_b refl

        pub second_asks : SheetAsks q' p.b u b (length ids)
        unfolding SheetAsks
        second_asks = (left p, right p, recipes.right, asks_B)

        pub joint_fills : (u' : List ℕ) (c : Head) (ids' : List ℕ) (z : Result (Unit {0}) Full) → SheetSays q' p.b u b ids u' c ids' z → Fills w a (f_trees (left p) (right p) (moment_of t)) old 0 u' c ids' z
        joint_fills u' c ids' z more = rw (← joined (moment_of t))
            (fills_after filled_A (omega (arith, size_A p asks.alike, length-map (sides (moment_of t) recipes.left) (array_vec_len p.a.signals))) _ u' c ids' z
            (side_fills recipes.right q' p.b begins_B u b ids u' c ids' z asks_B more))
