-- One equality and its product, and what one signal of a grouping adds. Assumes nothing.
use mathlib.Core.Path.{◌≡◌, refl, ap, ap₂, subst, ◌∙◌}
use mathlib.Core.Bool.{true, false, ◌&&◌, beq}
use mathlib.Core.List.{List, [], ◌∷◌}
use mathlib.Core.Logic.{⊎_elim}
use Prim.Native.Nat.{ℕ, ◌<◌, ◌≤◌}
use borrow.Author.Tests.{lt-ltb, le-ltb}
use lib.ListN.{get_or}
use lib.Dec.{ltb}
use Rattle.meaning.specs.Joint.{first}
use Rattle.tree.specs.Tree.{Tree, height, Reduced, combine_tree}
use Rattle.tree.proofs.Combine.{combine_height}
use Rattle.std.specs.Prelude.{Result, Ok, Err}
use Rattle.diagram.specs.declared.Full.{Full}
use Rattle.diagram.specs.declared.Head.{Head}
use Rattle.diagram.specs.declared.Op.TheVariants.{And, Equal}
use Rattle.diagram.specs.Operation.{op_of}
use Rattle.diagram.specs.Table.{tree_at, combined}
use Rattle.diagram.specs.Contract.{Has, Lacks, Gives, CombineAsks}
use Rattle.diagram.proofs.Grown.{has_ready}
use Rattle.diagram.proofs.Counting.{parts_held}
use Rattle.fill.specs.Work.{PartOf, Misses, Is, Ends}
use Rattle.fill.specs.Trees.{trees_at, equal_tree, with_product}
use Rattle.fill.specs.Contract.{EqualAsks, EqualSays, MemberAsks, MemberSays}
use Rattle.fill.proofs.Parts.{part_none, part_one, part_left, part_split}
use Rattle.fill.proofs.Gains.{gains_none, gains_one, misses_one, gains_after, misses_after, misses_wider, is_kept, under_kept}
use Rattle.fill.proofs.Products.{trees_later, tree_later, trees_first, tree-first}

-- a table with the tree t has every part of it
one_held : {w : List ℕ} {a : Head} {t : Tree} {u : List ℕ} {b : Head} {r : ℕ} {s : Tree} → Has w a t u b r → PartOf s (t ∷ []) → (y : ℕ) × Is u b.used y s
one_held {u} {b} {r} h q = let p = parts_held u b.used h.grown.good (part_one q) r h.id h.is in (p.0, record { id = p.1; is = p.2 })

-- ## One equality and its product

module _ {w : List ℕ} {a : Head} {q x y left : ℕ} (asks : EqualAsks w a q x y left) where
  -- the product before, the equality, the product after
  abbrev Q : Tree
  Q = tree_at w a.used q

  abbrev E : Tree
  E = combined w a.used beq x y

  abbrev P : Tree
  P = combine_tree ◌&&◌ Q E

  levels_E : height E ≤ left
  levels_E =
      let reduced = asks.ready.good.reduced in
      combine_height beq left _ _ (reduced x asks.first.id) (reduced y asks.second.id) asks.first.levels asks.second.levels

  pub equal_misses : {u : List ℕ} {b : Head} → Lacks w a (combined w a.used (op_of Equal) x y) u b → Misses w a (with_product Q E) u b
  unfolding op_of with_product
  equal_misses lacks = misses_wider (E ∷ P ∷ []) (λ s p. part_left (P ∷ []) p) (misses_one lacks)

  module _ {u : List ℕ} {b : Head} {r : ℕ} (same : Has w a (combined w a.used (op_of Equal) x y) u b r) where
    has : Has w a E u b r
    unfolding op_of
    has = same

    Q_kept : tree_at u b.used q ≡ Q
    Q_kept = has.grown.keeps.same q asks.product.id

    pub product_asks : CombineAsks u b q r left
    product_asks = record {
      ready = has_ready has;
      first = under_kept has.grown.keeps asks.product;
      second = record { id = has.id; levels = rw has.is levels_E };
    }

    ends_by : (u' : List ℕ) (c : Head) (made : Result ℕ Full) → Gives u b P u' c made → EqualSays w a q x y left u' c made
    unfolding Gives Ends with_product
    ends_by u' c (Ok z) s = record {
      gains = gains_after (gains_one has) (gains_one s);
      all = λ t p. ⊎_elim
          (λ i. let k = one_held has i in (k.0, is_kept s.grown.keeps k.1))
          (λ i. one_held s i)
          (part_split (E ∷ []) p);
      is = record { id = s.id; is = s.is };
      levels =
          combine_height ◌&&◌ left _ _ (asks.ready.good.reduced q asks.product.id)
          (subst Reduced has.is (has.grown.good.reduced r has.id)) asks.product.levels levels_E;
    }
    ends_by u' c (Err full) s = (misses_after (gains_one has) (misses_one s.0), s.1)

    pub equal_ends : (u' : List ℕ) (c : Head) (made : Result ℕ Full) → Gives u b (combined u b.used (op_of And) q r) u' c made → EqualSays w a q x y left u' c made
    unfolding op_of
    equal_ends u' c made s = ends_by u' c made (subst (λ (t : Tree). Gives u b t u' c made) (ap₂ (combine_tree ◌&&◌) Q_kept has.is) s)

-- ## One signal, with the first f of its class

module _ {w : List ℕ} {a : Head} {g ids : List ℕ} {q v left : ℕ} (asks : MemberAsks w a g ids q v left) {f : ℕ} (is-first : f ≡ first g v) where
  abbrev H : ℕ → Tree
  H = trees_at w a.used ids

  abbrev before : Tree
  before = tree_at w a.used q

  module _ (later : f < v) {x y : ℕ} (ex : x ≡ get_or ids f 0) (ey : y ≡ get_or ids v 0) where
    equal_is : combined w a.used beq x y ≡ equal_tree g H v
    unfolding equal_tree trees_at
    equal_is = ap₂ (combine_tree beq) (ap (tree_at w a.used) (ex ∙ ap (λ (k : ℕ). get_or ids k 0) is-first)) (ap (tree_at w a.used) ey)

    pub member_later : (u : List ℕ) (b : Head) (made : Result ℕ Full) → EqualSays w a q x y left u b made → MemberSays w a g ids q v left u b made
    member_later u b made s =
        let t : ltb (first g v) v ≡ true = lt-ltb (first g v) v (subst (λ (k : ℕ). k < v) is-first later) in
        rw (trees_later g H before v t, tree_later g H before v t)
        (subst (λ (e : Tree). Ends w a (with_product before e) (combine_tree ◌&&◌ before e) left u b made) equal_is s)

  pub member_first : v ≤ f → MemberSays w a g ids q v left w a (Ok q)
  unfolding Ends
  member_first le =
      let t : ltb (first g v) v ≡ false = le-ltb (first g v) v (subst (λ (k : ℕ). v ≤ k) is-first le) in
      rw (trees_first g H before v t, tree-first g H before v t) (record {
        gains = gains_none w a [] asks.equals.ready;
        all = λ s p. absurd (part_none p);
        is = record { id = asks.product.id; is = refl };
        levels = asks.product.levels;
      })
