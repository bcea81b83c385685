-- A pass over a side: what its loop keeps, from signal to signal. Assumes nothing.
use Rattle.std.specs.Prelude.{if◌then◌else◌, Ok, Err}
use denote.Ref.{Bor}
use mathlib.Core.Path.{◌≡◌, refl, sym, ap, subst, ◌∙◌}
use mathlib.Core.Bool.{Bool, true, false}
use mathlib.Core.List.{List}
use Prim.Native.Nat.{ℕ, ◌+◌, ◌<◌, ◌≤◌}
use native.Mathlib.Omega.{arith}
use native.Mathlib.Numerals.{add-one}
use lib.ListN.{length, get_or, take, set}
use lib.Seq.{length-take-le}
use Rattle.arrayvec.specs.ArrayVec.{array_vec_len}
use Rattle.meaning.specs.Sheet as paper
use Rattle.meaning.specs.Tick.{gate_value}
use Rattle.meaning.specs.Joint.{ins, total, variables}
use Rattle.promises.specs.Proper.{Fits, Proper}
use Rattle.tree.specs.Tree.{combine_tree, complement_tree}
use Rattle.tree.proofs.Function.{for_height}
use Rattle.lists.specs.Lists as lists
use Rattle.lists.specs.Recipes.{tree_of, nth_signal, Side, left, right, Compatible, sheet_on, signals_before, register_tree, recipe_tree}
use Rattle.lists.proofs.Values.{made_same, proper_fits}
use Rattle.lists.proofs.Places.{inputs-next, registers-next, input-place, register-place}
use Rattle.lists.proofs.Sides.{joint_below, register_below, input_below, inputs_on}
use Rattle.lists.proofs.Recipes.{recipe-tree}
use Rattle.sheet.specs.declared.kind.Kind.TheVariants.{Input, Register}
use Rattle.sheet.specs.declared.Sheet.{Sheet}
use Rattle.sheet.specs.declared.Signal.{Signal}
use Rattle.sheet.specs.Stored as stored
use Rattle.sheet.specs.Stored.{signal_of, Right}
use Rattle.sheet.proofs.Right.{by_kind, signal_input, signal_register, signal_inverter, signal_and, signal_or, signal_xor}
use Rattle.sheet.proofs.Whole.{length_signals, signal_at}
use Rattle.diagram.specs.declared.Full.{Full}
use Rattle.diagram.specs.declared.Head.{Head}
use Rattle.diagram.specs.Contract.{Keeps, Has, Gives}
use Rattle.fill.specs.Work.{Is, Filled, Fills}
use Rattle.fill.specs.Trees.{map_trees, trees_at}
use Rattle.fill.proofs.Gains.{gains_ready, is_kept}
use Rattle.fill.proofs.MapTrees.{stand_at}
use Rattle.fill.proofs.Mapped.{Mapped, mapped_none, mapped_end, mapped_small, mapped_next, mapped_misses}
use Rattle.work.specs.declared.pass.Moment.{Moment}
use Rattle.work.specs.declared.pass.Moment.TheVariants.{Start, Now, Next}
use Rattle.work.specs.declared.pass.Pass.{Pass}
use Rattle.work.specs.Passes.{moment_of, variable_at, register_in, signal_in, passed, Operand, RegisterAsks, SignalAsks, f_tree, side_tree, pass_at, Earlier, SideAsks}

-- ## From signal to signal

pass_made : {t : Moment} {r r' i i' b l : ℕ} → r ≡ r' → i ≡ i'
    → ◌≡◌ {A = Pass} (record { moment = t; register = r; input = i; before = b; left = l }) (record { moment = t; register = r'; input = i'; before = b; left = l })
pass_made p q = rw (p, q)

-- signal v of a side is y
module _ (A B : paper.Sheet) (t : Moment) (d : Side) (v : ℕ) (y : paper.Signal)
    (l : v < length (sheet_on A B d).signals) (is : nth_signal (sheet_on A B d).signals v ≡ y) where
  abbrev side : List paper.Signal
  side = (sheet_on A B d).signals

  inputs_more : paper.inputs (take (v + 1) side) ≡ paper.inputs (take v side) + (if paper.signal_is_input y then 1 else 0)
  inputs_more = rw (add-one v) (inputs-next side v l ∙ rw is)

  registers_more : paper.registers (take (v + 1) side) ≡ paper.registers (take v side) + (if paper.signal_is_register y then 1 else 0)
  registers_more = rw (add-one v) (registers-next side v l ∙ rw is)

  passed-input : paper.signal_is_input y ≡ true → paper.signal_is_register y ≡ false
      → passed (pass_at A B t d v) Input ≡ pass_at A B t d (v + 1)
  unfolding pass_at passed
  passed-input i r = pass_made (omega (arith, rw r at registers_more)) (omega (arith, rw i at inputs_more))

  passed-register : paper.signal_is_input y ≡ false → paper.signal_is_register y ≡ true
      → passed (pass_at A B t d v) Register ≡ pass_at A B t d (v + 1)
  unfolding pass_at passed
  passed-register i r = pass_made (omega (arith, rw r at registers_more)) (omega (arith, rw i at inputs_more))

  passed_other : paper.signal_is_input y ≡ false → paper.signal_is_register y ≡ false → pass_at A B t d v ≡ pass_at A B t d (v + 1)
  unfolding pass_at
  passed_other i r = pass_made (omega (arith, rw r at registers_more)) (omega (arith, rw i at inputs_more))

-- ## One signal of a side

side_proper : (A B : paper.Sheet) → Compatible A B → (d : Side) → Proper (sheet_on A B d)
side_proper A B c left = c.left_proper
side_proper A B c right = c.right_proper

module _ (A B : paper.Sheet) (d : Side) (p : Pass) (s : Sheet) (w : List ℕ) (a : Head) (old : List ℕ)
    (asks : SideAsks A B d p s w a (length old)) (v : ℕ) (l : v < array_vec_len s.signals) where
  abbrev ss : List paper.Signal
  ss = (sheet_on A B d).signals

  abbrev x : Signal
  x = stored.nth_signal s v

  right-now : Right v x
  right-now = asks.whole.kept.right v l

  size_is : length ss ≡ array_vec_len s.signals
  size_is = ap (λ (S : paper.Sheet). length S.signals) (sym asks.side) ∙ length_signals s

  within : v < length ss
  within = omega (arith, size_is)

  signal_is : nth_signal ss v ≡ signal_of x
  signal_is =
      ap (λ (S : paper.Sheet). nth_signal S.signals v) (sym asks.side)
      ∙ signal_at s v (paper.input 0) l

  -- the pass after it
  passed-next : passed (pass_at A B p.moment d v) x.kind ≡ pass_at A B p.moment d (v + 1)
  unfolding passed paper.signal_is_input paper.signal_is_register
  passed-next =
      let t = p.moment in
      by_kind x
      (λ e. rw e (passed-input A B t d v _ within (signal_is ∙ signal_input x e) refl refl))
      (λ e. rw e (passed-register A B t d v _ within (signal_is ∙ signal_register x e) refl refl))
      (λ e. rw e (passed_other A B t d v _ within (signal_is ∙ signal_inverter x e) refl refl))
      (λ e. rw e (passed_other A B t d v _ within (signal_is ∙ signal_and x e) refl refl))
      (λ e. rw e (passed_other A B t d v _ within (signal_is ∙ signal_or x e) refl refl))
      (λ e. rw e (passed_other A B t d v _ within (signal_is ∙ signal_xor x e) refl refl))

  -- an input, and a register, has a variable left
  input-left : x.kind ≡ Input → (0 < (pass_at A B p.moment d v).input) × ((pass_at A B p.moment d v).input < 65536)
  unfolding pass_at
  input-left e =
      let few : paper.inputs (take v ss) < ins A B = omega (arith, input-place ss v _ within (signal_is ∙ signal_input x e), inputs_on A B asks.compatible d) in
      (omega (arith, input_below A B (moment_of p.moment) (paper.inputs (take v ss)) few), omega (arith, asks.levels))

  register-left : (t : Moment) → x.kind ≡ Register → (0 < (pass_at A B t d v).register) × ((pass_at A B t d v).register < 65536)
  unfolding pass_at
  register-left t e =
      let r = register-place ss v _ _ within (signal_is ∙ signal_register x e) in
      (omega (arith, register_below A B d (paper.registers (take v ss)) r.0), omega (arith, asks.levels))

  -- ## In the table as it stands

  module _ (u : List ℕ) (b : Head) (ids : List ℕ)
      (so : Mapped w a (side_tree A B (moment_of p.moment) d) old (signals_before A B d) (array_vec_len s.signals) u b ids v) where
    keeps : Keeps w a.used u b.used
    keeps = so.filled.gains.keeps

    -- a lower signal
    lower_is : (k : ℕ) → k < v → Is u b.used (get_or ids (signals_before A B d + k) 0) (side_tree A B (moment_of p.moment) d k)
    lower_is k lk = stand_at (side_tree A B (moment_of p.moment) d) v k _ lk refl so.filled.stand

    lower : (k : ℕ) → k < v → Operand (pass_at A B p.moment d v) u b.used ids k
    unfolding pass_at
    lower k lk = let i = lower_is k lk in record {
      place = omega (arith, joint_below A B d k (omega (arith, within)), asks.places_for, so.filled.frame.size);
      under = record { id = i.id; levels = rw i.is (for_height (variables A B) _) };
    }

    -- one tick on, any signal now
    earlier_is : (now : Bor (List ℕ)) → Earlier A B (Next now) w a.used → (k : ℕ) → k < length ss
        → Is u b.used (get_or now.now (signals_before A B d + k) 0) (f_tree A B lists.now (signals_before A B d + k))
    unfolding Earlier
    earlier_is now e k lk = is_kept keeps (stand_at (f_tree A B lists.now) (total A B) (signals_before A B d + k) _ (joint_below A B d k lk) (omega arith) e.1)

    register_asks : (t : Moment) → Earlier A B t w a.used → x.kind ≡ Register → RegisterAsks t (pass_at A B t d v) x u b.used
    unfolding RegisterAsks pass_at Earlier
    register_asks Start e k = right-now.initial k
    register_asks Now e k = register-left Now k
    register_asks (Next now) e k =
        let source : x.b < length ss = omega (arith, asks.whole.sources v l k, size_is) in
        let i = earlier_is now e x.b source in
        record {
          place = omega (arith, joint_below A B d x.b source, e.0);
          under = record { id = i.id; levels = rw i.is (for_height (variables A B) _) };
        }

    signal_asks : SignalAsks (pass_at A B p.moment d v) x u b ids
    unfolding pass_at
    signal_asks = record {
      ready = gains_ready so.filled.gains;
      input = input-left;
      register = λ e. register_asks p.moment asks.earlier e;
      first = λ k. lower x.a (right-now.first k);
      second = λ k. lower x.b (right-now.second k);
    }

    register_same : (t : Moment) → Earlier A B t w a.used → (c : Bool) (k : ℕ) → k < length ss
        → register_in t (pass_at A B t d v) (trees_at u b.used) c k ≡ register_tree A B (moment_of t) d (paper.registers (take v ss)) c k
    unfolding register_in register_tree moment_of pass_at trees_at
    register_same Start e c k lk = refl
    register_same Now e c k lk = refl
    register_same (Next now) e c k lk = (earlier_is now e k lk).is

    source_in : (c : Bool) (k : ℕ) → nth_signal ss v ≡ paper.register c k → k < length ss
    source_in c k e =
        let fit : Fits (length ss) (take v ss) (paper.register c k) = subst (Fits (length ss) (take v ss)) e (proper_fits (sheet_on A B d) (side_proper A B asks.compatible d) v within) in
        fit.1

    tree_is : signal_in (pass_at A B p.moment d v) (trees_at u b.used) ids x ≡ side_tree A B (moment_of p.moment) d v
    unfolding signal_in recipe_tree pass_at trees_at
    tree_is =
        let t = p.moment in
        ap (λ (y : paper.Signal). tree_of y (variable_at (pass_at A B t d v).input) (register_in t (pass_at A B t d v) (trees_at u b.used)) (λ k. trees_at u b.used ids (signals_before A B d + k))) (sym signal_is)
        ∙ made_same complement_tree (λ g. combine_tree (gate_value g)) (length ss) (take v ss) (nth_signal ss v)
        (proper_fits (sheet_on A B d) (side_proper A B asks.compatible d) v within)
        (λ q e. refl)
        (λ c k e. register_same t asks.earlier c k (source_in c k e))
        (λ k lk. (lower_is k (omega (arith, length-take-le v ss (omega (arith, within))))).is)
        ∙ sym (recipe-tree A B asks.compatible d v within (moment_of t))

-- ## The loop

-- after v signals: the pass stands before signal v, and the ids of f of the first v stand in the array
pub record Passing (A B : paper.Sheet) (d : Side) (p : Pass) (s : Sheet) (w : List ℕ) (a : Head) (old u : List ℕ) (b : Head) (q : Pass) (ids : List ℕ) (v : ℕ) : Type 0 where
  pub pass : q ≡ pass_at A B p.moment d v
  pub mapped : Mapped w a (side_tree A B (moment_of p.moment) d) old (signals_before A B d) (array_vec_len s.signals) u b ids v

module _ {A B : paper.Sheet} {d : Side} {p : Pass} {s : Sheet} {w : List ℕ} {a : Head} (old : List ℕ) (asks : SideAsks A B d p s w a (length old)) where
  pub passing_none : Passing A B d p s w a old w a p old 0
  passing_none = record { pass = asks.begins; mapped = mapped_none w a _ old (signals_before A B d) (array_vec_len s.signals) asks.ready }

  pub passing_end : {u : List ℕ} {b : Head} {q : Pass} {ids : List ℕ} {v : ℕ} → Passing A B d p s w a old u b q ids v → array_vec_len s.signals ≤ v
      → Filled w a (map_trees (side_tree A B (moment_of p.moment) d) (array_vec_len s.signals)) old (signals_before A B d) u b ids
  passing_end so l = mapped_end so.mapped l

  begins_at : p.before ≡ signals_before A B d
  unfolding pass_at
  begins_at = ap (λ (q : Pass). q.before) asks.begins

  module _ {u : List ℕ} {b : Head} {q : Pass} {ids : List ℕ} {v : ℕ} (so : Passing A B d p s w a old u b q ids v) (l : v < array_vec_len s.signals) where
    abbrev here : Signal
    here = stored.nth_signal s v

    here_next : passed (pass_at A B p.moment d v) here.kind ≡ pass_at A B p.moment d (v + 1)
    here_next = passed-next A B d p s w a old asks v l

    pub passing_asks : SignalAsks q here u b ids
    passing_asks = rw so.pass (signal_asks A B d p s w a old asks v l u b ids so.mapped)

    pub passing_past : (here.kind ≡ Input → 0 < q.input) × (here.kind ≡ Register → 0 < q.register)
    passing_past = rw so.pass (
      (λ e. (input-left A B d p s w a old asks v l e).0),
      (λ e. (register-left A B d p s w a old asks v l p.moment e).0),
    )

    pub passing_place : p.before + v < length ids
    passing_place =
        omega (arith, begins_at, joint_below A B d v (within A B d p s w a old asks v l), asks.places_for, so.mapped.filled.frame.size)

    tree_here : signal_in q (trees_at u b.used) ids here ≡ side_tree A B (moment_of p.moment) d v
    tree_here =
        ap (λ (y : Pass). signal_in y (trees_at u b.used) ids here) so.pass
        ∙ tree_is A B d p s w a old asks v l u b ids so.mapped

    module _ (u' : List ℕ) (c : Head) where
      module _ (i : ℕ) (gives : Gives u b (signal_in q (trees_at u b.used) ids here) u' c (Ok i)) where
        has : Has u b (side_tree A B (moment_of p.moment) d v) u' c i
        unfolding Gives
        has = rw (← tree_here) gives

        pub passing_small : i < 65536
        passing_small = mapped_small has

        pub passing_next : (q' : Pass) (ids' : List ℕ) → q' ≡ passed q here.kind → ids' ≡ set ids (p.before + v) i → Passing A B d p s w a old u' c q' ids' (v + 1)
        passing_next q' ids' eq ei = record {
          pass = eq ∙ ap (λ (y : Pass). passed y here.kind) so.pass ∙ here_next;
          mapped = mapped_next so.mapped l has (ap (λ (k : ℕ). k + v) begins_at) (omega (arith, passing_place, so.mapped.filled.frame.size)) ei;
        }

      pub passing_full : (full : Full) → Gives u b (signal_in q (trees_at u b.used) ids here) u' c (Err full) → (any : List ℕ)
          → Fills w a (map_trees (side_tree A B (moment_of p.moment) d) (array_vec_len s.signals)) old (signals_before A B d) u' c any (Err full)
      unfolding Gives Fills
      passing_full full gives any = (mapped_misses so.mapped l (rw (← tree_here) gives.0), gives.1)
