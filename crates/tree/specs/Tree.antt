-- Reduced decision trees, and what two of them make under an operation. Assumes nothing.
use Rattle.std.specs.Prelude.{◌≡◌, Bool, false, ℕ, ◌<◌, eqb, ltb, if◌then◌else◌}
use Rattle.std.specs.Bool.{beq}
use Rattle.std.proofs.Math.Bool.{Bool-discrete}
use Rattle.std.proofs.Math.Decide.{ℕ_discrete}

-- A constant, or a test of the variable at a height: the tree where it is 0, and the tree where it is 1.
pub data Tree : Type 0 where
  leaf : Bool → Tree
  node : ℕ → Tree → Tree → Tree
  deriving Discrete as Tree-discrete

abbrev pub equal? : (t u : Tree) → Dec (t ≡ u)
equal? = Tree-discrete Bool-discrete ℕ_discrete

-- a test of the variable at height v; where both branches are one tree, that tree
unfoldable pub glue_by : (v : ℕ) (l h : Tree) → Dec (l ≡ h) → Tree
glue_by v l h (yes e) = l
glue_by v l h (no e) = node v l h

unfoldable pub glue : ℕ → Tree → Tree → Tree
glue v l h = glue_by v l h (equal? l h)

-- how many variable levels remain: 0 for a constant
unfoldable pub height : Tree → ℕ
height (leaf b) = 0
height (node v l h) = v

-- heights fall along every branch, and no test has one tree for both its branches
unfoldable pub Reduced : Tree → Type 0
Reduced (leaf b) = Unit {0}
Reduced (node v l h) = (l ≡ h → ⊥) × (height l < v) × (height h < v) × Reduced l × Reduced h

-- the first tree is the second, or one below it
pub data Sub (t : Tree) : Tree → Type 0 where
  whole : Sub t t
  in_low : {v : ℕ} {l h : Tree} → Sub t l → Sub t (node v l h)
  in_high : {v : ℕ} {l h : Tree} → Sub t h → Sub t (node v l h)

-- no constant
unfoldable pub Inner : Tree → Type 0
Inner t = (b : Bool) → t ≡ leaf b → ⊥

-- a tree where the variable at height m is b: a branch if it tests that variable, else the tree itself
unfoldable pub branch : Bool → ℕ → Tree → Tree
branch b m (leaf c) = leaf c
branch b m (node v l h) = if eqb v m then (if b then h else l) else node v l h

-- a tree with f applied to its constants
unfoldable pub relabel : (Bool → Bool) → Tree → Tree
relabel f (leaf b) = leaf (f b)
relabel f (node v l h) = glue v (relabel f l) (relabel f h)

-- a tree beside one that tests at height v, whose branches are combined with it by fl and fh: the greater height is tested first
unfoldable pub beside : ℕ → (Tree → Tree) → (Tree → Tree) → Tree → Tree
beside v fl fh (leaf b) = glue v (fl (leaf b)) (fh (leaf b))
beside v fl fh (node w l h) =
    if ltb v w then glue w (beside v fl fh l) (beside v fl fh h) else
    (if eqb v w then glue v (fl l) (fh h) else glue v (fl (node w l h)) (fh (node w l h)))

-- the tree of an operation on two trees
unfoldable pub combine_tree : (Bool → Bool → Bool) → Tree → Tree → Tree
combine_tree op (leaf a) u = relabel (op a) u
combine_tree op (node v l h) u = beside v (combine_tree op l) (combine_tree op h) u

-- the complement is one such operation: equality with the constant 0
unfoldable pub complement_tree : Tree → Tree
complement_tree t = combine_tree beq t (leaf false)
