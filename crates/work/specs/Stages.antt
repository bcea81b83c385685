-- The lists of two sheets as lists of trees, and what it is to work a part of one. Assumes nothing.
use Rattle.std.specs.Prelude.{◌≡◌, ◌&&◌, List, ◌++◌, ℕ, ◌+◌, ◌≤◌, ◌<◌, max, length, Result, Ok, Err}
use Rattle.meaning.specs.Sheet as paper
use Rattle.meaning.specs.Joint.{total, Q}
use Rattle.meaning.specs.Room.{step_count}
use Rattle.tree.specs.Tree.{Tree, combine_tree}
use Rattle.lists.specs.Lists as lists
use Rattle.diagram.specs.declared.Full.{Full}
use Rattle.diagram.specs.declared.Head.{Head}
use Rattle.diagram.specs.Words.{room_of, rest_of}
use Rattle.diagram.specs.Table.{tree_at}
use Rattle.diagram.specs.Contract.{Ready}
use Rattle.fill.specs.Work.{PartOf, Gains, Misses, Is, Stand}
use Rattle.fill.specs.Trees.{map_trees, equal_trees}
use Rattle.work.specs.declared.Pair.{Pair}
use Rattle.work.specs.declared.pass.Moment.{Moment}
use Rattle.work.specs.Lists.{left, right, joint, Alike, Exceeds}
use Rattle.work.specs.Passes.{moment_of, f_tree, h_tree, Earlier}

-- ## Lists of trees

module _ (A B : paper.Sheet) where
  -- all f of a moment, all h
  abbrev pub f_trees : lists.Moment → List Tree
  f_trees t = map_trees (f_tree A B t) (total A B)

  abbrev pub h_trees : lists.Moment → List Tree
  h_trees t = map_trees (h_tree A B t) (total A B)

  unfoldable pub both_trees : lists.Moment → List Tree
  both_trees t = f_trees t ++ h_trees t

  -- the front of the step list, which no grouping changes: all f and all h now, all f and all h one tick on
  unfoldable pub front_trees : List Tree
  front_trees = both_trees lists.now ++ both_trees lists.next

  -- Q of a grouping times h one tick on
  unfoldable pub times_tree : List ℕ → ℕ → Tree
  times_tree g v = combine_tree ◌&&◌ (lists.tree A B (Q A B g)) (h_tree A B lists.next v)

  -- what a grouping adds: the equalities and products up to Q, and Q times each h one tick on
  unfoldable pub round_trees : List ℕ → List Tree
  round_trees g = equal_trees g (h_tree A B lists.now) (length g) ++ map_trees (times_tree g) (total A B)

  -- the step list of a grouping
  abbrev pub step_trees : List ℕ → List Tree
  step_trees g = front_trees ++ round_trees g

-- ## Lists that are worked

-- every part of a tree of the list has an id
pub record Held (u : List ℕ) (n : ℕ) (ts : List Tree) : Type 0 where
  pub each : (s : Tree) → PartOf s ts → (x : ℕ) × Is u n x s

-- the list ts is worked, and the ids of the first k of the trees t stand in the array
pub record Listed (w : List ℕ) (a : Head) (ts : List Tree) (t : ℕ → Tree) (k : ℕ) (u : List ℕ) (b : Head) (ids : List ℕ) : Type 0 where
  pub gains : Gains w a ts u b
  pub held : Held u b.used ts
  pub stand : Stand u b.used ids 0 (map_trees t k)
  pub size : length ids ≡ k

-- or there is no room for it
unfoldable pub ListFills : List ℕ → Head → List Tree → (ℕ → Tree) → ℕ → List ℕ → Head → List ℕ → Result (Unit {0}) Full → Type 0
ListFills w a ts t k u b ids (Ok done) = Listed w a ts t k u b ids
ListFills w a ts t k u b ids (Err full) = Misses w a ts u b

-- ## The joint list at a moment

-- f of a moment: there is a place for each, and one tick on the ids of all f now are known
pub record JointAsks (p : Pair) (t : Moment) (w : List ℕ) (a : Head) (places : ℕ) : Type 0 where
  pub ready : Ready w a
  pub alike : Alike p
  pub sized : places ≡ joint p
  pub earlier : Earlier (left p) (right p) t w a.used

pub record BothAsks (p : Pair) (t : Moment) (w : List ℕ) (a : Head) (f-places h-places : ℕ) : Type 0 where
  pub f_asks : JointAsks p t w a f-places
  pub h_sized : h-places ≡ joint p

-- f and h of a moment are worked, and their ids stand in two arrays
pub record Both (p : Pair) (t : Moment) (w : List ℕ) (a : Head) (u : List ℕ) (b : Head) (fs hs : List ℕ) : Type 0 where
  pub gains : Gains w a (both_trees (left p) (right p) (moment_of t)) u b
  pub f_stand : Stand u b.used fs 0 (f_trees (left p) (right p) (moment_of t))
  pub h_stand : Stand u b.used hs 0 (h_trees (left p) (right p) (moment_of t))
  pub f_size : length fs ≡ joint p
  pub h_size : length hs ≡ joint p

unfoldable pub BothSays : Pair → Moment → List ℕ → Head → List ℕ → Head → List ℕ → List ℕ → Result (Unit {0}) Full → Type 0
BothSays p t w a u b fs hs (Ok done) = Both p t w a u b fs hs
BothSays p t w a u b fs hs (Err full) = Misses w a (both_trees (left p) (right p) (moment_of t)) u b

-- ## The front of the step list

-- the table has the front and nothing else, and the words of two arrays are the ids of all h now and one tick on
pub record Front (p : Pair) (u : List ℕ) (b : Head) (h h' : List ℕ) : Type 0 where
  pub alike : Alike p
  pub ready : Ready u b
  pub nodes : (x : ℕ) → 2 ≤ x → x < b.used + 2 → PartOf (tree_at u b.used x) (front_trees (left p) (right p))
  pub held : Held u b.used (front_trees (left p) (right p))
  pub now_stand : Stand u b.used h 0 (h_trees (left p) (right p) lists.now)
  pub next_stand : Stand u b.used h' 0 (h_trees (left p) (right p) lists.next)
  pub now_size : length h ≡ joint p
  pub next_size : length h' ≡ joint p

-- the front was worked in an emptied table: its nodes are among those of every step list
pub record FrontDone (p : Pair) (w : List ℕ) (a : Head) (u : List ℕ) (b : Head) (h h' : List ℕ) : Type 0 where
  pub front : Front p u b h h'
  pub counted : (g : List ℕ) → length g ≡ joint p → max b.most (step_count (left p) (right p) g) ≡ max a.most (step_count (left p) (right p) g)
  pub room : room_of u ≡ room_of w
  pub rest : rest_of u ≡ rest_of w

-- or every step list counts more nodes than there is room for
unfoldable pub FrontSays : Pair → List ℕ → Head → List ℕ → Head → List ℕ → List ℕ → Result (Unit {0}) Full → Type 0
FrontSays p w a u b h h' (Ok done) = FrontDone p w a u b h h'
FrontSays p w a u b h h' (Err full) = (g : List ℕ) → length g ≡ joint p → Exceeds (step_count (left p) (right p) g) w u

-- ## What a grouping adds to it

abbrev pub RoundSays : Pair → List ℕ → List ℕ → Head → List ℕ → Head → List ℕ → Result (Unit {0}) Full → Type 0
RoundSays p g w a u b ids z = ListFills w a (round_trees (left p) (right p) g) (times_tree (left p) (right p) g) (joint p) u b ids z
