-- What a grouping adds to the front of the step list: the equalities with their running product up to Q, and Q times each h one tick on.
-- Assumes nothing.
use Rattle.std.specs.Prelude.{Result, Ok, Err}
use mathlib.Core.Path.{◌≡◌, sym, ap, ap₂, subst, ◌∙◌}
use mathlib.Core.Bool.{◌&&◌}
use mathlib.Core.List.{List}
use Prim.Native.Nat.{ℕ, zero, suc, ◌<◌}
use native.Mathlib.Omega.{arith}
use lib.ListN.{length}
use lib.Dec.{ltb}
use Rattle.meaning.specs.Sheet as paper
use Rattle.meaning.specs.Joint.{first, total, variables, Q}
use Rattle.tree.specs.Tree.{Tree, combine_tree}
use Rattle.laws.proofs.Basic.{case_bool}
use Rattle.tree.proofs.Function.{for_height}
use Rattle.lists.specs.Lists as lists
use Rattle.lists.specs.Lists.{not_first, match_at, product_to}
use Rattle.lists.proofs.Trees.{match_tree, product-tree_none, product-tree_hit, product-tree_miss, product-tree-Q}
use Rattle.diagram.specs.declared.Full.{Full}
use Rattle.diagram.specs.declared.Head.{Head}
use Rattle.fill.specs.Work.{Misses, Fills, Ended, Ends, Stand}
use Rattle.fill.specs.Trees.{map_trees, trees_at, products, equal_tree, product_tree, equal_trees}
use Rattle.fill.specs.Contract.{Known, EqualsAsks, EqualsSays, TimesAsks, TimesSays}
use Rattle.fill.proofs.Parts.{part_left}
use Rattle.fill.proofs.Gains.{gains_ready, gains_after, misses_after, misses_wider, stand_kept, known_kept, ended_under}
use Rattle.fill.proofs.MapTrees.{stand_at, stand_known, map_same}
use Rattle.fill.proofs.Products.{tree_later, tree-first, product_same, equals_same}
use Rattle.work.specs.declared.Pair.{Pair}
use Rattle.work.specs.Lists.{left, right, joint}
use Rattle.work.specs.Passes.{h_tree}
use Rattle.work.specs.Stages.{times_tree, round_trees, ListFills, Front, RoundSays}
use Rattle.work.proofs.Held.{held_map, held_append, held_kept}

-- ## The equalities and products, as functions

module _ (A B : paper.Sheet) (g : List ℕ) where
  pub equal_is : (v : ℕ) → equal_tree g (h_tree A B lists.now) v ≡ lists.tree A B (match_at A B g v)
  unfolding equal_tree
  equal_is v = sym (match_tree A B g v)

  pub product_is : (k : ℕ) → product_tree g (h_tree A B lists.now) k ≡ lists.tree A B (product_to A B g k)
  unfolding product_tree not_first
  product_is zero = sym (product-tree_none A B g)
  product_is (suc v) = case_bool (ltb (first g v) v)
      (λ t. tree_later g (h_tree A B lists.now) _ v t ∙ ap₂ (combine_tree ◌&&◌) (product_is v) (equal_is v) ∙ sym (product-tree_hit A B g v t))
      (λ t. tree-first g (h_tree A B lists.now) _ v t ∙ product_is v ∙ sym (product-tree_miss A B g v t))

  product-Q : product_tree g (h_tree A B lists.now) (length g) ≡ lists.tree A B (Q A B g)
  product-Q = product_is (length g) ∙ product-tree-Q A B g

-- ## In the table

-- lv are the variable levels, counted
module _ {p : Pair} {w : List ℕ} {a : Head} {h h' : List ℕ} (front : Front p w a h h') (g : List ℕ) (groups : length g ≡ joint p)
    {lv : ℕ} (counted : lv ≡ variables (left p) (right p)) where
  abbrev A : paper.Sheet
  A = left p

  abbrev B : paper.Sheet
  B = right p

  -- all h of a moment are known
  known : (t : lists.Moment) (hs : List ℕ) → length hs ≡ joint p → Stand w a.used hs 0 (map_trees (h_tree A B t) (total A B)) → Known w a.used hs lv
  unfolding joint
  known t hs size stand =
      rw counted (stand_known (h_tree A B t) (total A B) (variables A B) size (λ v l. for_height (variables A B) _) stand)

  pub equals_asks : EqualsAsks w a g h lv
  equals_asks = record { ready = front.ready; known = known lists.now h front.now_size front.now_stand; groups = groups ∙ sym front.now_size }

  abbrev E : List Tree
  E = equal_trees g (h_tree A B lists.now) (length g)

  abbrev T : ℕ → Tree
  T = times_tree A B g

  module _ (u : List ℕ) (b : Head) where
    same_h : (v : ℕ) → v < length g → trees_at w a.used h v ≡ h_tree A B lists.now v
    unfolding trees_at joint
    same_h v l = (stand_at (h_tree A B lists.now) (total A B) v v (omega (arith, groups)) (omega arith) front.now_stand).is

    sized : length h ≡ length g
    sized = front.now_size ∙ sym groups

    ends : (z : Result ℕ Full) → EqualsSays w a g h lv u b z → Ends w a E (lists.tree A B (Q A B g)) lv u b z
    ends z says =
        let same = equals_same g (trees_at w a.used h) (h_tree A B lists.now) same_h (length g) (omega arith) in
        let same-product = product_same g (trees_at w a.used h) (h_tree A B lists.now) same_h (length g) (omega arith) in
        rw (sized, same, same-product ∙ product-Q A B g) at says

    pub round_over : (full : Full) → EqualsSays w a g h lv u b (Err full) → (any : List ℕ) → RoundSays p g w a u b any (Err full)
    unfolding Ends ListFills round_trees
    round_over full says any =
        let m : Misses w a E u b × (full.head ≡ b) = ends (Err full) says in
        misses_wider _ (λ s k. part_left (map_trees T (total A B)) k) m.0

    module _ (q : ℕ) (says : EqualsSays w a g h lv u b (Ok q)) (ids : List ℕ) (places : length ids ≡ joint p) where
      ended : Ended w a E (lists.tree A B (Q A B g)) lv u b q
      unfolding Ends
      ended = ends (Ok q) says

      pub times_asks : TimesAsks u b q h' (length ids) lv
      times_asks = record {
        ready = gains_ready ended.gains;
        known = known_kept ended.gains.keeps (known lists.next h' front.next_size front.next_stand);
        factor = ended_under ended;
        sized = places ∙ sym front.next_size;
      }

      products_are : (v : ℕ) → v < joint p → products u b.used q h' v ≡ T v
      unfolding products trees_at times_tree joint
      products_are v l =
          ap₂ (combine_tree ◌&&◌) ended.is.is
          (stand_at (h_tree A B lists.next) (total A B) v v l (omega arith) (stand_kept ended.gains.keeps front.next_stand)).is

      all_products : map_trees (products u b.used q h') (length h') ≡ map_trees T (joint p)
      all_products = ap (map_trees (products u b.used q h')) front.next_size ∙ map_same _ _ (joint p) products_are

      round_by : (u' : List ℕ) (c : Head) (out : List ℕ) (z : Result (Unit {0}) Full) → Fills u b (map_trees T (joint p)) ids 0 u' c out z → RoundSays p g w a u' c out z
      unfolding Fills ListFills round_trees joint
      round_by u' c out (Ok done) k = record {
        gains = gains_after ended.gains k.gains;
        held = held_append (held_kept k.gains.keeps (record { each = ended.all })) (held_map T (total A B) k.gains.good k.stand);
        stand = k.stand;
        size = k.frame.size ∙ places;
      }
      round_by u' c out (Err full) k = misses_after ended.gains k.0

      pub round_says : (u' : List ℕ) (c : Head) (out : List ℕ) (z : Result (Unit {0}) Full) → TimesSays u b q h' ids u' c out z → RoundSays p g w a u' c out z
      round_says u' c out z k = round_by u' c out z (subst (λ (ts : List Tree). Fills u b ts ids 0 u' c out z) all_products k)
