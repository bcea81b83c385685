-- The lists of trees that are worked: one for each signal, and the equalities of a grouping with their running product. Assumes nothing.
use Rattle.std.specs.Prelude.{Bool, true, false, ◌&&◌, List, [], ◌∷◌, ◌++◌, ℕ, zero, suc, get_or, eqb, ltb, if◌then◌else◌}
use Rattle.std.specs.Bool.{beq}
use Rattle.meaning.specs.Joint.{first}
use Rattle.tree.specs.Tree.{Tree, leaf, combine_tree, complement_tree}
use Rattle.diagram.specs.Table.{tree_at}

-- a tree for each of the first k numbers
unfoldable pub map_trees : (ℕ → Tree) → ℕ → List Tree
map_trees t zero = []
map_trees t (suc k) = map_trees t k ++ (t k ∷ [])

-- the trees that the words of an array stand for
unfoldable pub trees_at : List ℕ → ℕ → List ℕ → ℕ → Tree
trees_at w n ids v = tree_at w n (get_or ids v 0)

-- h of f: itself for a plain signal, complemented for a flipped one
unfoldable pub tree_of_normal : Bool → Tree → Tree
tree_of_normal plain t = if plain then t else complement_tree t

-- the same of each id, where a flag says whether its signal is plain
unfoldable pub normals : List ℕ → ℕ → List Bool → List ℕ → ℕ → Tree
normals w n plain ids v = tree_of_normal (get_or plain v false) (trees_at w n ids v)

-- the same, where a byte says it: 1 that its signal is plain, any other that it is flipped
unfoldable pub byte_normals : List ℕ → ℕ → List ℕ → List ℕ → ℕ → Tree
byte_normals w n plain ids v = tree_of_normal (eqb (get_or plain v 0) 1) (trees_at w n ids v)

-- q times each
unfoldable pub products : List ℕ → ℕ → ℕ → List ℕ → ℕ → Tree
products w n q ids v = combine_tree ◌&&◌ (tree_at w n q) (trees_at w n ids v)

-- ## The equalities of a grouping g, over the trees h of its signals

-- "h_first equals h_v"
unfoldable pub equal_tree : List ℕ → (ℕ → Tree) → ℕ → Tree
equal_tree g h v = combine_tree beq (h (first g v)) (h v)

-- an equality, and its product with the product q of those before
unfoldable pub with_product : Tree → Tree → List Tree
with_product q e = e ∷ combine_tree ◌&&◌ q e ∷ []

-- what signal v adds to the list, and makes of the product q: nothing where it is first in its class
unfoldable pub member_trees : List ℕ → (ℕ → Tree) → Tree → ℕ → List Tree
member_trees g h q v = if ltb (first g v) v then with_product q (equal_tree g h v) else []

unfoldable pub member_tree : List ℕ → (ℕ → Tree) → Tree → ℕ → Tree
member_tree g h q v = if ltb (first g v) v then combine_tree ◌&&◌ q (equal_tree g h v) else q

-- the product of the equalities of the first k signals
unfoldable pub product_tree : List ℕ → (ℕ → Tree) → ℕ → Tree
product_tree g h zero = leaf true
product_tree g h (suc v) = member_tree g h (product_tree g h v) v

-- these equalities, each with the product up to it
unfoldable pub equal_trees : List ℕ → (ℕ → Tree) → ℕ → List Tree
equal_trees g h zero = []
equal_trees g h (suc v) = equal_trees g h v ++ member_trees g h (product_tree g h v) v
