-- The step list of a grouping: its front and what a round adds are of its functions, and the ids of Q times h tell Step. Assumes nothing.
use Rattle.std.specs.Prelude.{Result, Ok, Err, OnOk}
use mathlib.Core.Path.{◌≡◌, refl, sym, subst, ◌∙◌}
use mathlib.Core.Bool.{Bool}
use mathlib.Core.List.{List}
use mathlib.Core.Logic.{◌↔◌}
use Prim.Native.Nat.{ℕ, suc, ◌<◌, ◌≤◌}
use native.Mathlib.Omega.{arith}
use lib.ListN.{length}
use Rattle.meaning.specs.Sheet.{Sheet}
use Rattle.meaning.specs.Joint.{total, variables}
use Rattle.meaning.specs.Room.{step_list_of, step_count}
use Rattle.promises.specs.Correspondence.{StepEqual}
use Rattle.tree.specs.Tree.{Tree}
use Rattle.lists.specs.Lists as lists
use Rattle.lists.specs.Lists.{not_first, match_at, product_to, timesQ, StepFun, f-now, h-now, equality, product, f-next, h-next, times_Q}
use Rattle.lists.proofs.Lists.{step_columns}
use Rattle.lists.proofs.Trees.{times_tree_lem}
use Rattle.diagram.specs.declared.Full.{Full}
use Rattle.diagram.specs.declared.Head.{Head}
use Rattle.diagram.proofs.Trees.{tree-constant}
use Rattle.fill.specs.Work.{PartOf, Gains, Misses, Named}
use Rattle.fill.specs.Trees.{map_trees, equal_trees}
use Rattle.fill.proofs.Parts.{part_left, part_right}
use Rattle.fill.proofs.Gains.{gains_ready, misses_wider}
use Rattle.fill.proofs.Named.{named-append, named-map}
use Rattle.fill.proofs.Products.{equal_part, product_part, named_equals}
use Rattle.work.specs.declared.Pair.{Pair}
use Rattle.work.specs.Lists.{left, right, joint, Exceeds, ListSays, StepSays, Holds}
use Rattle.work.specs.Passes.{f_tree, h_tree}
use Rattle.work.specs.Stages.{f_trees, h_trees, both_trees, front_trees, times_tree, round_trees, step_trees, ListFills, Front, RoundSays}
use Rattle.work.proofs.Told.{step_told}
use Rattle.work.proofs.Held.{map_part, listed_after}
use Rattle.work.proofs.Round.{equal_is, product_is}
use Rattle.work.proofs.Closing.{Bare, uncounted_bare, list_says, gains_within}

module _ (A B : Sheet) (g : List ℕ) (known : length g ≡ total A B) where
  abbrev m : ℕ
  m = variables A B

  abbrev P : (List Bool → Bool) → Type 0
  P = StepFun A B g

  -- the equalities and products, and Q times each h
  abbrev E : List Tree
  E = equal_trees g (h_tree A B lists.now) (length g)

  abbrev T : List Tree
  T = map_trees (times_tree A B g) (total A B)

  -- ## It is of the functions of the step list

  both_named : (t : lists.Moment) → ((v : ℕ) → v < total A B → P (lists.f_at A B t v)) → ((v : ℕ) → v < total A B → P (lists.h_at A B t v)) → Named m P (both_trees A B t)
  unfolding both_trees
  both_named t f h =
      named-append
      (named-map (f_tree A B t) (lists.f_at A B t) (total A B) f (λ v l. refl))
      (named-map (h_tree A B t) (lists.h_at A B t) (total A B) h (λ v l. refl))

  front_named : Named m P (front_trees A B)
  unfolding front_trees
  front_named = named-append (both_named lists.now f-now h-now) (both_named lists.next f-next h-next)

  equals_named : Named m P E
  unfolding not_first
  equals_named =
      named_equals m P g (h_tree A B lists.now) (match_at A B g) (product_to A B g) (length g)
      (λ v l t. (equality v (omega arith) t, equal_is A B g v))
      (λ v l t. (product v (omega arith) t, product_is A B g (suc v)))
      (length g) (omega arith)

  times_is : (v : ℕ) → times_tree A B g v ≡ lists.tree A B (timesQ A B g v)
  unfolding times_tree
  times_is v = sym (times_tree_lem A B g v)

  step-named : Named m P (step_trees A B g)
  unfolding round_trees
  step-named = named-append front_named (named-append equals_named (named-map (times_tree A B g) (timesQ A B g) (total A B) times_Q (λ v l. times_is v)))

  -- ## And has all of them

  f_part : (t : lists.Moment) (v : ℕ) → v < total A B → PartOf (f_tree A B t v) (both_trees A B t)
  unfolding both_trees
  f_part t v l = part_left (h_trees A B t) (map_part (f_tree A B t) (total A B) v l)

  h_part : (t : lists.Moment) (v : ℕ) → v < total A B → PartOf (h_tree A B t v) (both_trees A B t)
  unfolding both_trees
  h_part t v l = part_right (f_trees A B t) (map_part (h_tree A B t) (total A B) v l)

  now_part : {s : Tree} → PartOf s (both_trees A B lists.now) → PartOf s (step_trees A B g)
  unfolding front_trees
  now_part q = part_left (round_trees A B g) (part_left (both_trees A B lists.next) q)

  next_part : {s : Tree} → PartOf s (both_trees A B lists.next) → PartOf s (step_trees A B g)
  unfolding front_trees
  next_part q = part_left (round_trees A B g) (part_right (both_trees A B lists.now) q)

  equals_part : {s : Tree} → PartOf s E → PartOf s (step_trees A B g)
  unfolding round_trees
  equals_part q = part_right (front_trees A B) (part_left T q)

  times_part : {s : Tree} → PartOf s T → PartOf s (step_trees A B g)
  unfolding round_trees
  times_part q = part_right (front_trees A B) (part_right E q)

  step_all : (x : List Bool → Bool) → P x → PartOf (lists.tree A B x) (step_trees A B g)
  unfolding not_first
  step_all x (f-now v l) = now_part (f_part lists.now v l)
  step_all x (h-now v l) = now_part (h_part lists.now v l)
  step_all x (equality v l t) =
      equals_part (subst (λ (s : Tree). PartOf s E) (equal_is A B g v) (equal_part g (h_tree A B lists.now) (length g) v (omega arith) t))
  step_all x (product v l t) =
      equals_part (subst (λ (s : Tree). PartOf s E) (product_is A B g (suc v)) (product_part g (h_tree A B lists.now) (length g) v (omega arith) t))
  step_all x (f-next v l) = next_part (f_part lists.next v l)
  step_all x (h-next v l) = next_part (h_part lists.next v l)
  step_all x (times_Q v l) = times_part (subst (λ (s : Tree). PartOf s T) (times_is v) (map_part (times_tree A B g) (total A B) v l))

  step_tells : (u v : ℕ) → StepEqual A B g u v ↔ (times_tree A B g u ≡ times_tree A B g v)
  step_tells u v = rw (times_is u, times_is v) (step_told A B g known u v)

-- ## Worked from no node on

module _ (p : Pair) (g : List ℕ) (groups : length g ≡ joint p) {w : List ℕ} {a : Head} {x : List ℕ} {e : Head} (bare : Bare w a x e) where
  step_by : (u : List ℕ) (b : Head) (ids : List ℕ) (z : Result (Unit {0}) Full) → ListFills x e (step_trees (left p) (right p) g) (times_tree (left p) (right p) g) (joint p) u b ids z → StepSays p g w a u b ids z
  unfolding StepSays step_count joint
  step_by u b ids z k =
      let A = left p in
      let B = right p in
      list_says (variables A B) (StepFun A B g) (step_list_of A B g) _ (step_columns A B g groups).1 (step_trees A B g) (step-named A B g groups) (step_all A B g groups)
      (times_tree A B g) (joint p) (StepEqual A B g) (step_tells A B g groups) bare u b ids z k

  -- the front alone is among its nodes
  module _ (u : List ℕ) (b : Head) where
    pub front_within : Gains x e (front_trees (left p) (right p)) u b → b.used ≤ step_count (left p) (right p) g
    unfolding step_count joint
    front_within k = gains_within (step_columns (left p) (right p) g groups).1 bare.used (front_named (left p) (right p) g groups) k

    pub front_exceeds : Misses x e (front_trees (left p) (right p)) u b → Exceeds (step_count (left p) (right p) g) w u
    unfolding StepSays ListSays ListFills
    front_exceeds k = step_by u b u (Err (record { head = b })) (misses_wider _ (λ s q. part_left (round_trees (left p) (right p) g) q) k)

-- ## Worked on from its front

module _ {p : Pair} {w : List ℕ} {a : Head} {h h' : List ℕ} (front : Front p w a h h') (g : List ℕ) (groups : length g ≡ joint p) where
  abbrev none : Head
  none = record { used = 0; most = a.most }

  front_gains : Gains w none (front_trees (left p) (right p)) w a
  front_gains = record {
    good = front.ready.good;
    keeps = record { more = omega arith; same = λ x l. tree-constant w a.used x (omega arith) ∙ sym (tree-constant w 0 x (omega arith)) };
    tally = record { most = omega (arith, front.ready.tallied) };
    room = refl;
    rest = refl;
    new = front.nodes;
  }

  module _ (u : List ℕ) (b : Head) (ids : List ℕ) where
    pub step_says : (z : Result (Unit {0}) Full) → RoundSays p g w a u b ids z → StepSays p g w a u b ids z
    step_says z k = step_by p g groups (uncounted_bare w a) u b ids z (listed_after front_gains front.held _ _ (joint p) u b ids z k)

    pub step_holds : (z : Result (Unit {0}) Full) → RoundSays p g w a u b ids z → OnOk z (Holds w a u b)
    unfolding ListFills
    step_holds (Ok done) k = record { ready = gains_ready k.gains; keeps = k.gains.keeps }
    step_holds (Err full) k = tt
