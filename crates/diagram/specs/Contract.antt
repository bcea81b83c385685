-- What the functions on the table ask and say. Assumes nothing.
use Rattle.std.specs.Prelude.{◌≡◌, Bool, true, false, not, List, ◌⊎◌, ℕ, ◌+◌, ◌<◌, ◌≤◌, max, eqb, Option, Some, None, Result, Ok, Err}
use Rattle.meaning.specs.Numbers.{node_words}
use Rattle.tree.specs.Tree.{Tree, height, branch, Sub, Inner}
use Rattle.diagram.specs.declared.Branches.{Branches}
use Rattle.diagram.specs.declared.Full.{Full}
use Rattle.diagram.specs.declared.Head.{Head}
use Rattle.diagram.specs.declared.Made.{Made}
use Rattle.diagram.specs.declared.Sides.{Sides}
use Rattle.diagram.specs.Words.{BUCKET, OPERATION, at, room_of, rest_of}
use Rattle.diagram.specs.Table.{tree_at, Means, Stamped, Silent, Good}

-- ## A tree is put in the table

-- every id of the table (w, n) is one of (u, m), with the same tree
pub record Keeps (w : List ℕ) (n : ℕ) (u : List ℕ) (m : ℕ) : Type 0 where
  pub more : n ≤ m
  pub same : (a : ℕ) → a < n + 2 → tree_at u m a ≡ tree_at w n a

-- The table (u, m) has every id of (w, n), and each of its other nodes is a part of t; the words behind the table are unchanged.
pub record Grown (w : List ℕ) (n : ℕ) (t : Tree) (u : List ℕ) (m : ℕ) : Type 0 where
  pub good : Good u m
  pub keeps : Keeps w n u m
  pub room : room_of u ≡ room_of w
  pub rest : rest_of u ≡ rest_of w
  pub new : (a : ℕ) → n + 2 ≤ a → a < m + 2 → Sub (tree_at u m a) t

-- the head b came from a by counting nodes: the greatest count is the greater of the old one and of what is used now
pub record Tally (a b : Head) : Type 0 where
  pub most : b.most ≡ max a.most b.used

-- r is the id of the tree t
pub record Has (w : List ℕ) (a : Head) (t : Tree) (u : List ℕ) (b : Head) (r : ℕ) : Type 0 where
  pub grown : Grown w a.used t u b.used
  pub tally : Tally a b
  pub id : r < b.used + 2
  pub is : tree_at u b.used r ≡ t

-- the table is full, and one part of t has no id
pub record Lacks (w : List ℕ) (a : Head) (t : Tree) (u : List ℕ) (b : Head) : Type 0 where
  pub grown : Grown w a.used t u b.used
  pub tally : Tally a b
  pub full : b.used ≡ room_of w
  pub part : Tree
  pub of : Sub part t
  pub none : (i : ℕ) → i < b.used + 2 → tree_at u b.used i ≡ part → ⊥

-- what is said of the words w with the head a, a tree, the words afterwards, and the answer
unfoldable pub Says : List ℕ → Head → Tree → List ℕ → Result Made Full → Type 0
Says w a t u (Ok m) = Has w a t u m.head m.id
Says w a t u (Err f) = Lacks w a t u f.head

-- the same of a table whose words are u and whose head is b afterwards
unfoldable pub Gives : List ℕ → Head → Tree → List ℕ → Head → Result ℕ Full → Type 0
Gives w a t u b (Ok x) = Has w a t u b x
Gives w a t u b (Err full) = Lacks w a t u b × (full.head ≡ b)

-- an inner tree that the table had, or that is a part of t: what a table with t has to hold
unfoldable pub Wanted : List ℕ → ℕ → Tree → Tree → Type 0
Wanted w n t s = Inner s × (((x : ℕ) × (x < n + 2) × (tree_at w n x ≡ s)) ⊎ Sub s t)

-- ## What is asked

-- a table in order, whose head has a greatest count of at least what is used
pub record Ready (w : List ℕ) (a : Head) : Type 0 where
  pub good : Good w a.used
  pub tallied : a.used ≤ a.most

pub record MakeAsks (w : List ℕ) (a : Head) (v l h : ℕ) : Type 0 where
  pub ready : Ready w a
  pub tall : v < 65536
  pub low : l < a.used + 2
  pub high : h < a.used + 2
  pub lows : height (tree_at w a.used l) < v
  pub highs : height (tree_at w a.used h) < v

-- an id, of which at most so many variable levels remain
pub record Under (w : List ℕ) (n x left : ℕ) : Type 0 where
  pub id : x < n + 2
  pub levels : height (tree_at w n x) ≤ left

pub record CombineAsks (w : List ℕ) (a : Head) (x y left : ℕ) : Type 0 where
  pub ready : Ready w a
  pub first : Under w a.used x left
  pub second : Under w a.used y left

pub record ComplementAsks (w : List ℕ) (a : Head) (x left : ℕ) : Type 0 where
  pub ready : Ready w a
  pub operand : Under w a.used x left

-- ## How a combination begins

pub record AreBranches (w : List ℕ) (n x v : ℕ) (r : Branches) : Type 0 where
  pub low_id : r.low < n + 2
  pub high_id : r.high < n + 2
  pub low_is : tree_at w n r.low ≡ branch false v (tree_at w n x)
  pub high_is : tree_at w n r.high ≡ branch true v (tree_at w n x)

-- the greater height of two ids, and their branches there
pub record Splits (w : List ℕ) (n x y : ℕ) (s : Sides) : Type 0 where
  pub top : s.top ≡ max (height (tree_at w n x)) (height (tree_at w n y))
  pub small : s.top < 65536
  pub first : AreBranches w n x s.top s.a
  pub second : AreBranches w n y s.top s.b

-- an operand is no constant
abbrev pub Open : ℕ → ℕ → Type 0
Open x y = x < 2 → y < 2 → ⊥

-- what is known of an operation without a table: it holds in every table that is in order
unfoldable pub Early : (Bool → Bool → Bool) → ℕ → ℕ → Option ℕ → Type 0
Early op x y (Some r) = (w : List ℕ) (n : ℕ) → Good w n → x < n + 2 → y < n + 2 → Means w n op x y r
Early op x y None = Open x y

-- u leaves the other operand, the other constant takes all, and equal operands are the answer
pub record Absorbs (op : Bool → Bool → Bool) (u : Bool) : Type 0 where
  pub left_unit : (b : Bool) → op u b ≡ b
  pub right_unit : (b : Bool) → op b u ≡ b
  pub left-zero : (b : Bool) → op (not u) b ≡ not u
  pub right_zero : (b : Bool) → op b (not u) ≡ not u
  pub itself : (b : Bool) → op b b ≡ b

-- u leaves the other operand, and equal operands give u
pub record Cancels (op : Bool → Bool → Bool) (u : Bool) : Type 0 where
  pub left_unit : (b : Bool) → op u b ≡ b
  pub right_unit : (b : Bool) → op b u ≡ b
  pub itself : (b : Bool) → op b b ≡ u

unfoldable pub Absorbed : ℕ → ℕ → ℕ → Option ℕ → Type 0
Absorbed unit x y r = (op : Bool → Bool → Bool) → Absorbs op (eqb unit 1) → Early op x y r

unfoldable pub Cancelled : ℕ → ℕ → ℕ → Option ℕ → Type 0
Cancelled unit x y r = (op : Bool → Bool → Bool) → Cancels op (eqb unit 1) → Early op x y r

-- a result of the cache is a true one
unfoldable pub Recalled : List ℕ → ℕ → (Bool → Bool → Bool) → ℕ → ℕ → Option ℕ → Type 0
Recalled w n op x y (Some r) = Means w n op x y r
Recalled w n op x y None = Unit {0}

-- ## Nodes are taken back

-- the first n slots of the cache are empty, and all other words as they were
pub record Wiped (w : List ℕ) (u : List ℕ) (n : ℕ) : Type 0 where
  pub empty : (i : ℕ) → i < n → at u i OPERATION ≡ 0
  pub others : (i k : ℕ) → k < node_words → (k ≡ OPERATION → ⊥) → at u i k ≡ at w i k
  pub room : room_of u ≡ room_of w
  pub rest : rest_of u ≡ rest_of w

-- nothing in the cache counts any more; the nodes and the buckets are as they were
pub record Renewed (w : List ℕ) (u : List ℕ) : Type 0 where
  pub stamped : Stamped u
  pub silent : Silent u
  pub nodes : (i k : ℕ) → k ≤ BUCKET → at u i k ≡ at w i k
  pub room : room_of u ≡ room_of w
  pub rest : rest_of u ≡ rest_of w

-- of the n nodes of w the first m are left, and nothing in the cache counts
pub record Remain (w : List ℕ) (n : ℕ) (u : List ℕ) (m : ℕ) : Type 0 where
  pub good : Good u m
  pub silent : Silent u
  pub same : (x : ℕ) → x < m + 2 → tree_at u m x ≡ tree_at w n x
  pub room : room_of u ≡ room_of w
  pub rest : rest_of u ≡ rest_of w

-- the nodes from `mark` on are taken back: the ids below keep their trees
pub record Forgets (w : List ℕ) (a : Head) (mark : ℕ) (u : List ℕ) (b : Head) : Type 0 where
  pub good : Good u mark
  pub same : (x : ℕ) → x < mark + 2 → tree_at u mark x ≡ tree_at w a.used x
  pub used : b.used ≡ mark
  pub most : b.most ≡ a.most
  pub room : room_of u ≡ room_of w
  pub rest : rest_of u ≡ rest_of w
