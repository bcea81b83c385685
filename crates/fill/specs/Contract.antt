-- What the functions that work a list ask and say. Assumes nothing.
use Rattle.std.specs.Prelude.{◌≡◌, Bool, ◌&&◌, List, ℕ, ◌<◌, length, get_or, Result}
use Rattle.std.specs.Bool.{beq}
use Rattle.tree.specs.Tree.{combine_tree}
use Rattle.std.specs.Fn.{Shared}
use denote.Ref.{MutBor}
use Rattle.tree.specs.Tree.{Tree}
use Rattle.diagram.specs.declared.table.Table.{Table}
use Rattle.diagram.specs.declared.Full.{Full}
use Rattle.diagram.specs.declared.Head.{Head}
use Rattle.diagram.specs.Table.{tree_at, combined}
use Rattle.diagram.specs.Contract.{Ready, Under, Keeps, Gives}
use Rattle.fill.specs.Work.{Fills, Ends}
use Rattle.fill.specs.Trees.{map_trees, trees_at, normals, byte_normals, products, with_product, member_trees, member_tree, equal_trees, product_tree}

-- the words are ids of a table of n nodes, of which at most so many variable levels remain
pub record Known (w : List ℕ) (n : ℕ) (ids : List ℕ) (left : ℕ) : Type 0 where
  pub each : (v : ℕ) → v < length ids → Under w n (get_or ids v 0) left

-- ## An operation on the table at each id, with its place: f is called in tables that have kept the ids

module _ {F : Type 0} (g : Shared F (MutBor Table × (ℕ × (ℕ × Unit {0}))) (Result ℕ Full × (MutBor Table × Unit {0}))) (f : F) (w : List ℕ) (a : Head) (ids : List ℕ) where
  -- it may be called there
  pub record Takes : Type 0 where
    pub at : (v : ℕ) → v < length ids → (p : MutBor Table) → Ready p.now.words.now p.now.head → Keeps w a.used p.now.words.now p.now.head.used
        → g.pre f (p, (v, (get_or ids v 0, tt)))

  -- and puts the tree t v in the table
  pub record Puts (t : ℕ → Tree) : Type 0 where
    pub at : (v : ℕ) → v < length ids → (p q : MutBor Table) (r : Result ℕ Full) → Ready p.now.words.now p.now.head → Keeps w a.used p.now.words.now p.now.head.used
        → g.post f (p, (v, (get_or ids v 0, tt))) (r, (q, tt))
        → (q.now.words.ghost_name ≡ p.now.words.ghost_name) × Gives p.now.words.now p.now.head (t v) q.now.words.now q.now.head r

-- ## One operation on each id: the table, of the words w and the head a, is u and b afterwards, and an array that was old is out

-- a flag for each id, whether its signal is plain, and a place for each result
pub record NormalsAsks (w : List ℕ) (a : Head) (plain : List Bool) (ids : List ℕ) (places left : ℕ) : Type 0 where
  pub ready : Ready w a
  pub known : Known w a.used ids left
  pub flags : length plain ≡ length ids
  pub sized : places ≡ length ids

abbrev pub NormalsSays : List ℕ → Head → List Bool → List ℕ → List ℕ → List ℕ → Head → List ℕ → Result (Unit {0}) Full → Type 0
NormalsSays w a plain ids old u b out z = Fills w a (map_trees (normals w a.used plain ids) (length ids)) old 0 u b out z

-- a byte for each id, 1 where its signal is plain, and a place for each result
pub record ByteNormalsAsks (w : List ℕ) (a : Head) (plain ids : List ℕ) (places left : ℕ) : Type 0 where
  pub ready : Ready w a
  pub known : Known w a.used ids left
  pub flags : length plain ≡ length ids
  pub sized : places ≡ length ids

abbrev pub ByteNormalsSays : List ℕ → Head → List ℕ → List ℕ → List ℕ → List ℕ → Head → List ℕ → Result (Unit {0}) Full → Type 0
ByteNormalsSays w a plain ids old u b out z = Fills w a (map_trees (byte_normals w a.used plain ids) (length ids)) old 0 u b out z

pub record TimesAsks (w : List ℕ) (a : Head) (q : ℕ) (ids : List ℕ) (places left : ℕ) : Type 0 where
  pub ready : Ready w a
  pub known : Known w a.used ids left
  pub factor : Under w a.used q left
  pub sized : places ≡ length ids

abbrev pub TimesSays : List ℕ → Head → ℕ → List ℕ → List ℕ → List ℕ → Head → List ℕ → Result (Unit {0}) Full → Type 0
TimesSays w a q ids old u b out z = Fills w a (map_trees (products w a.used q ids) (length ids)) old 0 u b out z

-- ## Equalities: q is the id of the product of those before

pub record EqualAsks (w : List ℕ) (a : Head) (q x y left : ℕ) : Type 0 where
  pub ready : Ready w a
  pub product : Under w a.used q left
  pub first : Under w a.used x left
  pub second : Under w a.used y left

abbrev pub EqualSays : List ℕ → Head → ℕ → ℕ → ℕ → ℕ → List ℕ → Head → Result ℕ Full → Type 0
EqualSays w a q x y left u b z =
    let p = tree_at w a.used q in
    let e = combined w a.used beq x y in
    Ends w a (with_product p e) (combine_tree ◌&&◌ p e) left u b z

-- a class number for each id
pub record EqualsAsks (w : List ℕ) (a : Head) (g ids : List ℕ) (left : ℕ) : Type 0 where
  pub ready : Ready w a
  pub known : Known w a.used ids left
  pub groups : length g ≡ length ids

abbrev pub EqualsSays : List ℕ → Head → List ℕ → List ℕ → ℕ → List ℕ → Head → Result ℕ Full → Type 0
EqualsSays w a g ids left u b z =
    let h = trees_at w a.used ids in
    Ends w a (equal_trees g h (length ids)) (product_tree g h (length ids)) left u b z

pub record MemberAsks (w : List ℕ) (a : Head) (g ids : List ℕ) (q v left : ℕ) : Type 0 where
  pub equals : EqualsAsks w a g ids left
  pub product : Under w a.used q left
  pub member : v < length ids

abbrev pub MemberSays : List ℕ → Head → List ℕ → List ℕ → ℕ → ℕ → ℕ → List ℕ → Head → Result ℕ Full → Type 0
MemberSays w a g ids q v left u b z =
    let h = trees_at w a.used ids in
    let p = tree_at w a.used q in
    Ends w a (member_trees g h p v) (member_tree g h p v) left u b z
