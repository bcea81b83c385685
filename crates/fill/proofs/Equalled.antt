-- The loop over the signals of a grouping, with the running product of their equalities. Assumes nothing.
use mathlib.Core.Path.{◌≡◌, subst}
use mathlib.Core.List.{List, []}
use mathlib.Core.Logic.{⊎_elim}
use Prim.Native.Nat.{ℕ, ◌+◌, ◌<◌, ◌≤◌}
use native.Mathlib.Omega.{arith}
use native.Mathlib.Numerals.{add-one}
use lib.ListN.{length}
use Rattle.tree.specs.Tree.{Tree, height}
use Rattle.std.specs.Prelude.{Ok, Err}
use Rattle.diagram.specs.declared.Full.{Full}
use Rattle.diagram.specs.declared.Head.{Head}
use Rattle.diagram.specs.Table.{tree_at}
use Rattle.diagram.specs.Contract.{Keeps}
use Rattle.diagram.proofs.Trees.{tree-constant}
use Rattle.fill.specs.Work.{Misses, Ended, Ends}
use Rattle.fill.specs.Trees.{trees_at, member_trees, member_tree, product_tree, equal_trees}
use Rattle.fill.specs.Contract.{EqualsAsks, EqualsSays, MemberSays}
use Rattle.fill.proofs.Parts.{part_none, part_split}
use Rattle.fill.proofs.Gains.{gains_none, gains_after, misses_after, misses_wider, is_kept}
use Rattle.fill.proofs.Products.{member_same, equals_upto}

-- after v signals: q is the id of the product of their equalities
pub record Equalled (w : List ℕ) (a : Head) (g ids : List ℕ) (left : ℕ) (u : List ℕ) (b : Head) (q v : ℕ) : Type 0 where
  pub within : v ≤ length ids
  pub ended : Ended w a (equal_trees g (trees_at w a.used ids) v) (product_tree g (trees_at w a.used ids) v) left u b q

module _ {w : List ℕ} {a : Head} {g ids : List ℕ} {left : ℕ} (asks : EqualsAsks w a g ids left) where
  abbrev H : ℕ → Tree
  H = trees_at w a.used ids

  pub equalled_none : Equalled w a g ids left w a 1 0
  unfolding equal_trees product_tree height
  equalled_none = record {
    within = omega arith;
    ended = record {
      gains = gains_none w a [] asks.ready;
      all = λ s p. absurd (part_none p);
      is = record { id = omega arith; is = tree-constant w a.used 1 (omega arith) };
      levels = omega arith;
    };
  }

  module _ {u : List ℕ} {b : Head} {q v : ℕ} (so : Equalled w a g ids left u b q v) where
    pub equalled_end : length ids ≤ v → EqualsSays w a g ids left u b (Ok q)
    unfolding Ends
    equalled_end l =
        let e : v ≡ length ids = omega (arith, so.within) in
        subst (λ (k : ℕ). Ended w a (equal_trees g H k) (product_tree g H k) left u b q) e so.ended

    -- signal v comes next
    module _ (l : v < length ids) where
      keeps : Keeps w a.used u b.used
      keeps = so.ended.gains.keeps

      -- what it adds, of the trees that the ids stand for from the start
      abbrev trees : List Tree
      trees = member_trees g H (product_tree g H v) v

      abbrev tree : Tree
      tree = member_tree g H (product_tree g H v) v

      same_now : (member_trees g (trees_at u b.used ids) (tree_at u b.used q) v ≡ trees)
          × (member_tree g (trees_at u b.used ids) (tree_at u b.used q) v ≡ tree)
      unfolding trees_at
      same_now = member_same g _ H _ _ v (omega (arith, asks.groups)) (λ k lk. keeps.same _ (asks.known.each k (omega arith)).id) so.ended.is.is

      module _ (u' : List ℕ) (c : Head) where
        pub equalled_next : {x : ℕ} → MemberSays u b g ids q v left u' c (Ok x) → Equalled w a g ids left u' c x (v + 1)
        unfolding Ends equal_trees product_tree
        equalled_next {x} says =
            let n : Ended u b trees tree left u' c x = rw (same_now.0, same_now.1) at says in
            record {
              within = omega arith;
              ended = rw (add-one v) (record {
                gains = gains_after so.ended.gains n.gains;
                all = λ s p. ⊎_elim
                    (λ i. let k = so.ended.all s i in (k.0, is_kept n.gains.keeps k.1))
                    (λ i. n.all s i)
                    (part_split (equal_trees g H v) p);
                is = n.is;
                levels = n.levels;
              });
            }

        pub equalled_full : (full : Full) → MemberSays u b g ids q v left u' c (Err full) → EqualsSays w a g ids left u' c (Err full)
        unfolding Ends equal_trees
        equalled_full full says =
            let n : Misses u b trees u' c = rw same_now.0 at says.0 in
            let k : Misses w a (equal_trees g H (v + 1)) u' c = rw (add-one v) (misses_after so.ended.gains n) in
            (misses_wider _ (λ s p. equals_upto g H (v + 1) (length ids) (omega arith) p) k, says.1)
