-- The equalities of a grouping and their running product, as trees. Assumes nothing.
use mathlib.Core.Path.{◌≡◌, refl, sym, ap₂, subst}
use mathlib.Core.Bool.{Bool, true, false, ◌&&◌, beq}
use mathlib.Core.List.{List, [], ◌∷◌, ◌++◌}
use mathlib.Core.Logic.{⊎_elim}
use Prim.Native.Nat.{ℕ, zero, suc, ◌+◌, ◌-◌, ◌<◌, ◌≤◌}
use native.Mathlib.Omega.{arith}
use lib.ListN.{length}
use lib.Dec.{ltb}
use Rattle.meaning.specs.Joint.{first}
use Rattle.promises.proofs.Tests.{first_is}
use Rattle.tree.specs.Tree.{Tree, leaf, Sub, whole, combine_tree}
use Rattle.tree.specs.Function.{tree_for}
use Rattle.laws.proofs.Basic.{case_bool}
use Rattle.fill.specs.Work.{PartOf, in_first, in_rest, Named}
use Rattle.fill.specs.Trees.{equal_tree, with_product, member_trees, member_tree, product_tree, equal_trees}
use Rattle.fill.proofs.Parts.{part_one, part_left, part_right, part_split}
use Rattle.fill.proofs.Named.{named_none, named-append}

-- ## A signal that is first in its class, and one that is not

module _ (g : List ℕ) (h : ℕ → Tree) (q : Tree) (v : ℕ) where
  pub trees_later : ltb (first g v) v ≡ true → member_trees g h q v ≡ with_product q (equal_tree g h v)
  unfolding member_trees
  trees_later t = rw t

  pub tree_later : ltb (first g v) v ≡ true → member_tree g h q v ≡ combine_tree ◌&&◌ q (equal_tree g h v)
  unfolding member_tree
  tree_later t = rw t

  pub trees_first : ltb (first g v) v ≡ false → member_trees g h q v ≡ []
  unfolding member_trees
  trees_first t = rw t

  pub tree-first : ltb (first g v) v ≡ false → member_tree g h q v ≡ q
  unfolding member_tree
  tree-first t = rw t

-- ## The same trees give the same lists

module _ (g : List ℕ) (h h' : ℕ → Tree) where
  pub equal_same : (v : ℕ) → h (first g v) ≡ h' (first g v) → h v ≡ h' v → equal_tree g h v ≡ equal_tree g h' v
  unfolding equal_tree
  equal_same v e e' = ap₂ (combine_tree beq) e e'

  pub member_same : (q q' : Tree) (v : ℕ) → v < length g → ((u : ℕ) → u ≤ v → h u ≡ h' u) → q ≡ q'
      → (member_trees g h q v ≡ member_trees g h' q' v) × (member_tree g h q v ≡ member_tree g h' q' v)
  unfolding member_trees member_tree
  member_same q q' v l same e =
      let s = equal_same v (same (first g v) (first_is g v l).1) (same v (omega arith)) in
      (rw (s, e), rw (s, e))

  module _ (same : (v : ℕ) → v < length g → h v ≡ h' v) where
    pub product_same : (k : ℕ) → k ≤ length g → product_tree g h k ≡ product_tree g h' k
    unfolding product_tree
    product_same zero l = refl
    product_same (suc v) l = (member_same _ _ v (omega arith) (λ u lu. same u (omega arith)) (product_same v (omega arith))).1

    pub equals_same : (k : ℕ) → k ≤ length g → equal_trees g h k ≡ equal_trees g h' k
    unfolding equal_trees
    equals_same zero l = refl
    equals_same (suc v) l =
        ap₂ (λ (ts us : List Tree). ts ++ us) (equals_same v (omega arith))
        (member_same _ _ v (omega arith) (λ u lu. same u (omega arith)) (product_same v (omega arith))).0

-- ## Each equality and product is on the list

module _ (g : List ℕ) (h : ℕ → Tree) where
  equals_up : {s : Tree} (k d : ℕ) → PartOf s (equal_trees g h k) → PartOf s (equal_trees g h (k + d))
  unfolding equal_trees
  equals_up k zero q = let e : k + 0 ≡ k = omega arith in rw e q
  equals_up k (suc d) q = let e : k + suc d ≡ suc (k + d) = omega arith in rw e (part_left _ (equals_up k d q))

  -- the list of the first k is in that of the first n
  pub equals_upto : {s : Tree} (k n : ℕ) → k ≤ n → PartOf s (equal_trees g h k) → PartOf s (equal_trees g h n)
  equals_upto {s} k n l q = let e : k + (n - k) ≡ n = omega arith in subst (λ (j : ℕ). PartOf s (equal_trees g h j)) e (equals_up k (n - k) q)

  module _ (n v : ℕ) (l : v < n) (t : ltb (first g v) v ≡ true) where
    pub equal_part : PartOf (equal_tree g h v) (equal_trees g h n)
    unfolding equal_trees with_product
    equal_part = equals_upto (suc v) n (omega arith) (rw (trees_later g h (product_tree g h v) v t) (part_right (equal_trees g h v) (in_first whole)))

    pub product_part : PartOf (product_tree g h (suc v)) (equal_trees g h n)
    unfolding equal_trees product_tree with_product
    product_part =
        equals_upto (suc v) n (omega arith)
        (rw (trees_later g h (product_tree g h v) v t, tree_later g h (product_tree g h v) v t) (part_right (equal_trees g h v) (in_rest (in_first whole))))

-- ## The list in a list of functions

-- the product is known by how it begins and how each signal changes it
pub product_is : (g : List ℕ) (h p : ℕ → Tree) (n : ℕ) → p 0 ≡ leaf true
    → ((v : ℕ) → v < n → ltb (first g v) v ≡ true → p (suc v) ≡ combine_tree ◌&&◌ (p v) (equal_tree g h v))
    → ((v : ℕ) → v < n → ltb (first g v) v ≡ false → p (suc v) ≡ p v)
    → (k : ℕ) → k ≤ n → product_tree g h k ≡ p k
unfolding product_tree
product_is g h p n none later first_one zero l = sym none
product_is g h p n none later first_one (suc v) l =
    let before : product_tree g h v ≡ p v = product_is g h p n none later first_one v (omega arith) in
    case_bool (ltb (first g v) v)
    (λ t. rw (tree_later g h (product_tree g h v) v t, before) (sym (later v (omega arith) t)))
    (λ t. rw (tree-first g h (product_tree g h v) v t, before) (sym (first_one v (omega arith) t)))

-- equality v is the function e v, and the product of the first v is the function p v
module _ (m : ℕ) (P : (List Bool → Bool) → Type 0) (g : List ℕ) (h : ℕ → Tree) (e p : ℕ → List Bool → Bool) (n : ℕ)
    (equals : (v : ℕ) → v < n → ltb (first g v) v ≡ true → P (e v) × (equal_tree g h v ≡ tree_for m (e v)))
    (products : (v : ℕ) → v < n → ltb (first g v) v ≡ true → P (p (suc v)) × (product_tree g h (suc v) ≡ tree_for m (p (suc v)))) where
  named_member : (v : ℕ) → v < n → Named m P (member_trees g h (product_tree g h v) v)
  unfolding with_product product_tree
  named_member v l = case_bool (ltb (first g v) v)
      (λ t. rw (trees_later g h (product_tree g h v) v t) (record {
        each = λ s q. ⊎_elim
            (λ x. let r = equals v l t in (e v, r.0, subst (Sub s) r.1 (part_one x)))
            (λ x. let r = products v l t in (p (suc v), r.0, subst (Sub s) (rw (tree_later g h (product_tree g h v) v t) at r.1) (part_one x)))
            (part_split (equal_tree g h v ∷ []) q);
      }))
      (λ t. rw (trees_first g h (product_tree g h v) v t) named_none)

  pub named_equals : (k : ℕ) → k ≤ n → Named m P (equal_trees g h k)
  unfolding equal_trees
  named_equals zero l = named_none
  named_equals (suc v) l = named-append (named_equals v (omega arith)) (named_member v (omega arith))
