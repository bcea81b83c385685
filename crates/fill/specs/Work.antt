-- What a table has gained once a list of trees is worked in it, or why it could not be. Assumes nothing.
use Rattle.std.specs.Prelude.{◌≡◌, Bool, false, List, ◌∷◌, ℕ, ◌+◌, ◌<◌, ◌≤◌, length, get_or, Result, Ok, Err}
use Rattle.tree.specs.Tree.{Tree, leaf, Sub, height}
use Rattle.tree.specs.Function.{tree_for}
use Rattle.diagram.specs.declared.Full.{Full}
use Rattle.diagram.specs.declared.Head.{Head}
use Rattle.diagram.specs.Words.{room_of, rest_of}
use Rattle.diagram.specs.Table.{tree_at, Good}
use Rattle.diagram.specs.Contract.{Keeps, Tally}

-- ## The table

-- s is a part of a tree of the list
pub data PartOf (s : Tree) : List Tree → Type 0 where
  in_first : {t : Tree} {ts : List Tree} → Sub s t → PartOf s (t ∷ ts)
  in_rest : {t : Tree} {ts : List Tree} → PartOf s ts → PartOf s (t ∷ ts)

-- The table u with the head b has every id of w with the head a, and each of its other nodes is a part of a tree of the list; the words
-- behind the table are unchanged, and the greatest count is tallied.
pub record Gains (w : List ℕ) (a : Head) (ts : List Tree) (u : List ℕ) (b : Head) : Type 0 where
  pub good : Good u b.used
  pub keeps : Keeps w a.used u b.used
  pub tally : Tally a b
  pub room : room_of u ≡ room_of w
  pub rest : rest_of u ≡ rest_of w
  pub new : (x : ℕ) → a.used + 2 ≤ x → x < b.used + 2 → PartOf (tree_at u b.used x) ts

-- the table is full, and one part of a tree of the list has no id
pub record Misses (w : List ℕ) (a : Head) (ts : List Tree) (u : List ℕ) (b : Head) : Type 0 where
  pub gains : Gains w a ts u b
  pub full : b.used ≡ room_of w
  pub part : Tree
  pub of : PartOf part ts
  pub none : (x : ℕ) → x < b.used + 2 → tree_at u b.used x ≡ part → ⊥

-- x is the id of the tree t in a table of n nodes
pub record Is (u : List ℕ) (n x : ℕ) (t : Tree) : Type 0 where
  pub id : x < n + 2
  pub is : tree_at u n x ≡ t

-- ## The array of ids

-- the words from off on are the ids of the trees of the list, in order
pub record Stand (u : List ℕ) (n : ℕ) (ids : List ℕ) (off : ℕ) (ts : List Tree) : Type 0 where
  pub each : (i : ℕ) → i < length ts → Is u n (get_or ids (off + i) 0) (get_or ts i (leaf false))

-- the words of ids outside the k from off on are those of old
pub record Frame (old ids : List ℕ) (off k : ℕ) : Type 0 where
  pub size : length ids ≡ length old
  pub below : (i : ℕ) → i < off → get_or ids i 0 ≡ get_or old i 0
  pub above : (i : ℕ) → off + k ≤ i → get_or ids i 0 ≡ get_or old i 0

-- ## A list is worked

pub record Filled (w : List ℕ) (a : Head) (ts : List Tree) (old : List ℕ) (off : ℕ) (u : List ℕ) (b : Head) (ids : List ℕ) : Type 0 where
  pub gains : Gains w a ts u b
  pub stand : Stand u b.used ids off ts
  pub frame : Frame old ids off (length ts)

-- the ids of a list of trees stand in the array from off on; or there is no room for the list
unfoldable pub Fills : List ℕ → Head → List Tree → List ℕ → ℕ → List ℕ → Head → List ℕ → Result (Unit {0}) Full → Type 0
Fills w a ts old off u b ids (Ok done) = Filled w a ts old off u b ids
Fills w a ts old off u b ids (Err full) = Misses w a ts u b × (full.head ≡ b)

-- every part of a list of trees has an id, and x is the id of t, of which at most so many variable levels remain
pub record Ended (w : List ℕ) (a : Head) (ts : List Tree) (t : Tree) (left : ℕ) (u : List ℕ) (b : Head) (x : ℕ) : Type 0 where
  pub gains : Gains w a ts u b
  pub all : (s : Tree) → PartOf s ts → (y : ℕ) × Is u b.used y s
  pub is : Is u b.used x t
  pub levels : height t ≤ left

unfoldable pub Ends : List ℕ → Head → List Tree → Tree → ℕ → List ℕ → Head → Result ℕ Full → Type 0
Ends w a ts t left u b (Ok x) = Ended w a ts t left u b x
Ends w a ts t left u b (Err full) = Misses w a ts u b × (full.head ≡ b)

-- ## A list of trees in a list of functions

-- every part of a tree of the list is a part of a function of m variables that P names
pub record Named (m : ℕ) (P : (List Bool → Bool) → Type 0) (ts : List Tree) : Type 0 where
  pub each : (s : Tree) → PartOf s ts → (f : List Bool → Bool) × P f × Sub s (tree_for m f)
