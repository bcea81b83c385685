-- What the words of the table stand for, and when they are in order. Assumes nothing.
use Rattle.std.specs.Prelude.{◌≡◌, Bool, List, ℕ, zero, suc, ◌+◌, ◌*◌, ◌<◌, ◌≤◌, eqb, if◌then◌else◌, Option, Some, None}
use Rattle.tree.specs.Tree.{Tree, leaf, node, glue, Reduced, combine_tree}
use Rattle.diagram.specs.declared.Op.{Op}
use Rattle.diagram.specs.Operation.{op_of, code_of, codes, stamps}
use Rattle.diagram.specs.Words.{HEIGHT, LOW, HIGH, NEXT, BUCKET, OPERATION, LEFT, RIGHT, RESULT, at, store, room_of, stamp_of, spread}

-- the tree of an id in a table of n nodes: 0 and 1 are the constants, i + 2 is node i
unfoldable pub tree_at : List ℕ → ℕ → ℕ → Tree
tree_at w zero id = leaf (eqb id 1)
tree_at w (suc n) id = if eqb id (n + 2) then node (at w n HEIGHT) (tree_at w n (at w n LOW)) (tree_at w n (at w n HIGH)) else tree_at w n id

-- the tree that tests at height v over the trees of two ids, and the tree of an operation on them
abbrev pub glued : List ℕ → ℕ → ℕ → ℕ → ℕ → Tree
glued w n v l h = glue v (tree_at w n l) (tree_at w n h)

abbrev pub combined : List ℕ → ℕ → (Bool → Bool → Bool) → ℕ → ℕ → Tree
combined w n op a b = combine_tree op (tree_at w n a) (tree_at w n b)

-- x is the id of the tree of an operation on a and b
pub record Means (w : List ℕ) (n : ℕ) (op : Bool → Bool → Bool) (a b x : ℕ) : Type 0 where
  pub id : x < n + 2
  pub is : tree_at w n x ≡ combined w n op a b

-- the bucket of a node that has these three words
unfoldable pub bucket_of : List ℕ → ℕ → ℕ → ℕ → ℕ
bucket_of w v l h = spread v l h (room_of w)

-- the bucket of node i
abbrev pub home_of : List ℕ → ℕ → ℕ
home_of w i = bucket_of w (at w i HEIGHT) (at w i LOW) (at w i HIGH)

-- the id p is of a constant, or of a node of bucket b
abbrev pub Home : List ℕ → ℕ → ℕ → Type 0
Home w b p = (i : ℕ) → p ≡ i + 2 → home_of w i ≡ b

-- the chain from the id p comes to node i
pub data On (w : List ℕ) (i : ℕ) : ℕ → Type 0 where
  here : {p : ℕ} → p ≡ i + 2 → On w i p
  there : {p : ℕ} → (k : ℕ) → p ≡ k + 2 → On w i (at w k NEXT) → On w i p

-- how the cache writes an operation: its code under the table's stamp
abbrev pub key_of : List ℕ → Op → ℕ
key_of w op = codes * stamp_of w + code_of op

-- the stamp fits a word beside a code, and no slot of the cache has a later one
pub record Stamped (w : List ℕ) : Type 0 where
  pub small : 0 < room_of w → stamp_of w < stamps
  pub slots : (i : ℕ) → i < room_of w → at w i OPERATION < codes * stamp_of w + codes

-- every slot of the cache is empty or has an earlier stamp: none counts
unfoldable pub Silent : List ℕ → Type 0
Silent w = (i : ℕ) → i < room_of w → at w i OPERATION ≤ codes * stamp_of w

-- slot i of the cache holds a true result of an operation
pub record Cached (w : List ℕ) (n i : ℕ) (op : Op) : Type 0 where
  pub left : at w i LEFT < n + 2
  pub right : at w i RIGHT < n + 2
  pub means : Means w n (op_of op) (at w i LEFT) (at w i RIGHT) (at w i RESULT)

-- A table of n nodes in order: branches and chains run to smaller ids, trees are reduced and none is there twice, every node is on the
-- chain of its bucket and no other node is, and the cache tells the truth under the table's stamp.
pub record Good (w : List ℕ) (n : ℕ) : Type 0 where
  pub fits : n ≤ room_of w
  pub low : (i : ℕ) → i < n → at w i LOW < i + 2
  pub high : (i : ℕ) → i < n → at w i HIGH < i + 2
  pub reduced : (a : ℕ) → a < n + 2 → Reduced (tree_at w n a)
  pub once : (a b : ℕ) → a < n + 2 → b < n + 2 → tree_at w n a ≡ tree_at w n b → a ≡ b
  pub next : (i : ℕ) → i < n → at w i NEXT < i + 2
  pub first : (b : ℕ) → b < room_of w → at w b BUCKET < n + 2
  pub chained : (i : ℕ) → i < n → On w i (at w (home_of w i) BUCKET)
  pub first_home : (b : ℕ) → b < room_of w → Home w b (at w b BUCKET)
  pub next_home : (i : ℕ) → i < n → Home w (home_of w i) (at w i NEXT)
  pub stamped : Stamped w
  pub cached : (i : ℕ) → i < room_of w → (op : Op) → at w i OPERATION ≡ key_of w op → Cached w n i op

-- the id of the node that has these three words, or that there is none
unfoldable pub Sought : List ℕ → ℕ → ℕ → ℕ → ℕ → Option ℕ → Type 0
Sought w n v l h (Some r) = (r < n + 2) × (tree_at w n r ≡ node v (tree_at w n l) (tree_at w n h))
Sought w n v l h None = (i : ℕ) → i < n → at w i HEIGHT ≡ v → at w i LOW ≡ l → at w i HIGH ≡ h → ⊥

-- ## What the words are afterwards

-- node i is added, first in the chain of its bucket
unfoldable pub added : List ℕ → ℕ → ℕ → ℕ → ℕ → List ℕ
added w i v l h =
    let b = bucket_of w v l h in
    store (store (store (store (store w i HEIGHT v) i LOW l) i HIGH h) i NEXT (at w b BUCKET)) b BUCKET (i + 2)

-- node i, which is the first of its chain, is taken out of it
unfoldable pub unlinked : List ℕ → ℕ → List ℕ
unlinked w i = store w (home_of w i) BUCKET (at w i NEXT)

-- a result is put in slot i of the cache
unfoldable pub noted : List ℕ → ℕ → Op → ℕ → ℕ → ℕ → List ℕ
noted w i op a b r = store (store (store (store w i OPERATION (key_of w op)) i LEFT a) i RIGHT b) i RESULT r
