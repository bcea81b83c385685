-- The trees of h, of the equalities and products, and of Q times h: each is one operation on trees before it. Assumes nothing.
use mathlib.Core.Path.{◌≡◌, sym, ap, ◌∙◌}
use mathlib.Core.Bool.{Bool, true, false, ◌&&◌, beq}
use mathlib.Core.List.{List}
use Prim.Native.Nat.{ℕ, suc, ◌<◌}
use lib.ListN.{length}
use Rattle.meaning.specs.Basic.{bit}
use Rattle.meaning.specs.Sheet.{Sheet}
use Rattle.meaning.specs.Joint.{first, total, variables, polarity, Q}
use Rattle.promises.proofs.Joint.{bit-h}
use Rattle.tree.specs.Tree.{Tree, leaf, combine_tree}
use Rattle.tree.proofs.Function.{for_same, for_constant, for_combine}
use Rattle.lists.specs.Lists.{Moment, now, next, not_first, tree, f_at, h_at, match_at, product_to, timesQ}
use Rattle.lists.proofs.Products.{product_none, product_hit, product_miss, product-Q}

module _ (A B : Sheet) where
  -- h is the equality of f with a constant, its polarity
  pub h_from_f : (t : Moment) (v : ℕ) → v < total A B → (e : List Bool) → h_at A B t v e ≡ beq (bit (polarity A B) v) (f_at A B t v e)
  unfolding h_at f_at
  h_from_f t v l e = bit-h A B _ _ v l

  pub h-tree : (t : Moment) (v : ℕ) → v < total A B → tree A B (h_at A B t v) ≡ combine_tree beq (leaf (bit (polarity A B) v)) (tree A B (f_at A B t v))
  h-tree t v l =
      for_same (variables A B) _ _ (λ e _. h_from_f t v l e)
      ∙ sym (for_combine beq (variables A B) (λ e. bit (polarity A B) v) (f_at A B t v))
      ∙ ap (λ (c : Tree). combine_tree beq c (tree A B (f_at A B t v))) (for_constant (variables A B) (bit (polarity A B) v))

  module _ (g : List ℕ) where
    pub match_tree : (v : ℕ) → tree A B (match_at A B g v) ≡ combine_tree beq (tree A B (h_at A B now (first g v))) (tree A B (h_at A B now v))
    unfolding match_at
    match_tree v = sym (for_combine beq (variables A B) (h_at A B now (first g v)) (h_at A B now v))

    pub product-tree_none : tree A B (product_to A B g 0) ≡ leaf true
    product-tree_none = for_same (variables A B) _ _ (λ e _. product_none A B g e) ∙ for_constant (variables A B) true

    pub product-tree_hit : (v : ℕ) → not_first g v ≡ true
        → tree A B (product_to A B g (suc v)) ≡ combine_tree ◌&&◌ (tree A B (product_to A B g v)) (tree A B (match_at A B g v))
    product-tree_hit v t =
        for_same (variables A B) _ _ (λ e _. product_hit A B g v e t) ∙ sym (for_combine ◌&&◌ (variables A B) (product_to A B g v) (match_at A B g v))

    pub product-tree_miss : (v : ℕ) → not_first g v ≡ false → tree A B (product_to A B g (suc v)) ≡ tree A B (product_to A B g v)
    product-tree_miss v t = for_same (variables A B) _ _ (λ e _. product_miss A B g v e t)

    pub product-tree-Q : tree A B (product_to A B g (length g)) ≡ tree A B (Q A B g)
    product-tree-Q = for_same (variables A B) _ _ (λ e _. product-Q A B g e)

    pub times_tree_lem : (v : ℕ) → tree A B (timesQ A B g v) ≡ combine_tree ◌&&◌ (tree A B (Q A B g)) (tree A B (h_at A B next v))
    unfolding timesQ
    times_tree_lem v = sym (for_combine ◌&&◌ (variables A B) (Q A B g) (h_at A B next v))
