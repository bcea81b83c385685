-- What it is to work a list of two sheets in the table. Assumes nothing.
use Rattle.std.specs.Prelude.{◌≡◌, List, ◌↔◌, ℕ, ◌*◌, ◌≤◌, ◌<◌, max, length, get_or, if◌then◌else◌, Result, Ok, Err}
use Rattle.arrayvec.specs.ArrayVec.{array_vec_len}
use Rattle.meaning.specs.Numbers.{max_signals}
use Rattle.meaning.specs.Basic.{bit}
use Rattle.meaning.specs.Sheet as paper
use Rattle.meaning.specs.Joint.{total, polarity}
use Rattle.meaning.specs.Room.{start_count, step_count}
use Rattle.promises.specs.Correspondence.{StartEqual, StepEqual}
use Rattle.sheet.specs.Stored.{sheet_of, Whole}
use Rattle.diagram.specs.Words.{room_of, rest_of}
use Rattle.diagram.specs.declared.Full.{Full}
use Rattle.diagram.specs.declared.Head.{Head}
use Rattle.diagram.specs.Contract.{Ready, Keeps}
use Rattle.work.specs.declared.Pair.{Pair}

-- the sheets A and B of a pair, and n, the length of their joint list
unfoldable pub left : Pair → paper.Sheet
left p = sheet_of p.a

unfoldable pub right : Pair → paper.Sheet
right p = sheet_of p.b

unfoldable pub joint : Pair → ℕ
joint p = total (left p) (right p)

-- the sheets are whole, each with an output, and have as many inputs, and plain tells the polarity of each joint signal
pub record Alike (p : Pair) : Type 0 where
  pub whole_a : Whole p.a
  pub whole_b : Whole p.b
  pub shown_a : 0 < array_vec_len p.a.outputs
  pub shown_b : 0 < array_vec_len p.b.outputs
  pub inputs : p.a.inputs ≡ p.b.inputs
  pub size : length p.plain ≡ 2 * max_signals
  pub plain : (v : ℕ) → v < joint p → get_or p.plain v 0 ≡ (if bit (polarity (left p) (right p)) v then 1 else 0)

-- A list of so many nodes was worked, and the table has no others: it fits, its nodes are counted, and two of n signals have one id
-- exactly when they are the same.
pub record Fits (count n : ℕ) (Same : ℕ → ℕ → Type 0) (w : List ℕ) (a : Head) (u : List ℕ) (b : Head) (ids : List ℕ) : Type 0 where
  pub fits : count ≤ room_of w
  pub most : b.most ≡ max a.most count
  pub room : room_of u ≡ room_of w
  pub rest : rest_of u ≡ rest_of w
  pub size : length ids ≡ n
  pub tells : (v v' : ℕ) → v < n → v' < n → (get_or ids v 0 ≡ get_or ids v' 0) ↔ Same v v'

-- the list counts more nodes than there is room for
pub record Exceeds (count : ℕ) (w u : List ℕ) : Type 0 where
  pub over : room_of w < count
  pub room : room_of u ≡ room_of w
  pub rest : rest_of u ≡ rest_of w

unfoldable pub ListSays : ℕ → ℕ → (ℕ → ℕ → Type 0) → List ℕ → Head → List ℕ → Head → List ℕ → Result (Unit {0}) Full → Type 0
ListSays count n Same w a u b ids (Ok done) = Fits count n Same w a u b ids
ListSays count n Same w a u b ids (Err full) = Exceeds count w u

-- the start list; the step list of a grouping
unfoldable pub StartSays : Pair → List ℕ → Head → List ℕ → Head → List ℕ → Result (Unit {0}) Full → Type 0
StartSays p = ListSays (start_count (left p) (right p)) (joint p) (StartEqual (left p) (right p))

unfoldable pub StepSays : Pair → List ℕ → List ℕ → Head → List ℕ → Head → List ℕ → Result (Unit {0}) Full → Type 0
StepSays p g = ListSays (step_count (left p) (right p) g) (joint p) (StepEqual (left p) (right p) g)

-- ## The table that is left, for more to be worked in it

-- a table with a head that has every id of another
pub record Holds (w : List ℕ) (a : Head) (u : List ℕ) (b : Head) : Type 0 where
  pub ready : Ready u b
  pub keeps : Keeps w a.used u b.used
