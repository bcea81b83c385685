-- What check and refine say of two sheets that are alike. Assumes nothing.
use Rattle.std.specs.Prelude.{◌≡◌, true, false, List, [], ℕ, suc, ◌+◌, ◌*◌, ◌≤◌, ◌<◌, max, length, get_or, Result, Ok, Err}
use Rattle.std.specs.Result.{is_ok}
use Rattle.arrayvec.specs.ArrayVec.{array_vec_len}
use Rattle.meaning.specs.Basic.{same_list}
use Rattle.meaning.specs.Sheet.{bytes_of_classes}
use Rattle.meaning.specs.Joint.{grouping, step_same, T, rounds}
use Rattle.meaning.specs.Room.{start_count, step_count}
use Rattle.meaning.specs.Answer as paper
use Rattle.promises.specs.Calls.{LeastFailing, Worked}
use Rattle.answer.specs.declared.Done.{Done}
use Rattle.answer.specs.declared.Done.TheVariants.{Equivalent, Undecided, Wrote}
use Rattle.answer.specs.declared.File.TheVariants.{Nothing}
use Rattle.answer.specs.declared.Refusal.TheVariants.{NoRoom}
use Rattle.answer.specs.declared.Refused.{Refused}
use Rattle.answer.specs.Meant.{answer_of}
use Rattle.diagram.specs.Words.{room_of, rest_of}
use Rattle.diagram.specs.declared.Full.{Full}
use Rattle.diagram.specs.declared.Head.{Head}
use Rattle.work.specs.declared.Pair.{Pair}
use Rattle.work.specs.Lists.{left, right, joint, Alike}
use Rattle.work.specs.Stages.{Front}
use Rattle.correspond.specs.declared.Round.{Round}
use Rattle.correspond.specs.declared.Round.TheVariants.{Stays, Splits}

-- two sheets that are alike, with as many outputs and at least one signal, and a grouping of their joint list
pub record Grouped (p : Pair) (g : List ℕ) : Type 0 where
  pub alike : Alike p
  pub some : 0 < joint p
  pub outputs : array_vec_len p.a.outputs ≡ array_vec_len p.b.outputs
  pub size : length g ≡ joint p

-- ## Check

-- the table keeps its room and the words behind it
pub record Lent (w u : List ℕ) : Type 0 where
  pub room : room_of u ≡ room_of w
  pub rest : rest_of u ≡ rest_of w

-- the refusal of a call for which a list has no room: 0 is the start list, r + 1 the step list of T_r
abbrev pub out_of_room : ℕ → Refused
out_of_room list = record { refusal = NoRoom; file = Nothing; at = list }

pub record CheckSays (p : Pair) (g w u : List ℕ) (r : Result Done Refused) : Type 0 where
  pub answer : answer_of r ≡ paper.check_verdict (room_of w) (left p) (right p) g
  pub lent : Lent w u

-- ## One round

-- the grouping that one round makes of g
unfoldable pub next_of : Pair → List ℕ → List ℕ
next_of p g = grouping (joint p) (step_same (left p) (right p) g)

-- the step list of g has room, and is counted
pub record RoundFits (p : Pair) (g w : List ℕ) (a : Head) (u : List ℕ) (b : Head) : Type 0 where
  pub fits : step_count (left p) (right p) g ≤ room_of w
  pub most : b.most ≡ max a.most (step_count (left p) (right p) g)
  pub lent : Lent w u

-- Where the grouping splits, the table has the front of the step list again, and nothing else.
unfoldable pub RoundSays : Pair → List ℕ → List ℕ → List ℕ → List ℕ → Head → List ℕ → Head → List ℕ → Result Round Full → Type 0
RoundSays p h h' g w a u b g' (Ok Stays) = RoundFits p g w a u b × (same_list g (next_of p g) ≡ true) × (g' ≡ g)
RoundSays p h h' g w a u b g' (Ok Splits) =
    RoundFits p g w a u b × (same_list g (next_of p g) ≡ false) × (g' ≡ next_of p g) × Front p u b h h' × (b.used ≡ a.used)
RoundSays p h h' g w a u b g' (Err full) = (room_of w < step_count (left p) (right p) g) × Lent w u × (g' ≡ g)

-- ## All rounds

-- How the rounds from T_0 of a proposal end, with room for N nodes: g is T_r, all lists fitted and m is the greatest count; or the step list of
-- T_r, which is list r + 1, does not fit.
unfoldable pub SettledFrom : ℕ → Pair → List ℕ → List ℕ → ℕ → Result ℕ Refused → Type 0
SettledFrom N p proposal g m (Ok r) = Worked (left p) (right p) proposal N r m × (g ≡ T (left p) (right p) proposal r)
SettledFrom N p proposal g m (Err e) =
    (r : ℕ) × (e ≡ out_of_room (r + 1)) × LeastFailing (suc (rounds (left p) (right p) proposal)) (λ i. step_count (left p) (right p) (T (left p) (right p) proposal i) ≤ N) r

-- a head has counted the start list, and no more beside it than the step list of g
abbrev pub Counted : Pair → Head → List ℕ → Type 0
Counted p a g = max a.most (step_count (left p) (right p) g) ≡ max (start_count (left p) (right p)) (step_count (left p) (right p) g)

pub record SettleSays (p : Pair) (g w : List ℕ) (a : Head) (u : List ℕ) (b : Head) (g' : List ℕ) (z : Result ℕ Refused) : Type 0 where
  pub lent : Lent w u
  pub size : length g' ≡ length g
  pub from : (proposal : List ℕ) → g ≡ T (left p) (right p) proposal 0 → start_count (left p) (right p) ≤ room_of w
      → Counted p a g → SettledFrom (room_of w) p proposal g' b.most z

-- ## Refine

-- the bytes to be written: of a grouping, unless the answer is a refusal
unfoldable pub written_by : Result Done Refused → List ℕ → List ℕ
written_by (Ok (Equivalent r n)) g = bytes_of_classes g
written_by (Ok (Undecided w i r n)) g = bytes_of_classes g
written_by (Ok (Wrote k)) g = []
written_by (Err e) g = []

-- the answer is a verdict, so that the grouping is written
unfoldable pub Writes : Result Done Refused → Type 0
Writes (Ok (Equivalent r n)) = Unit {0}
Writes (Ok (Undecided w i r n)) = Unit {0}
Writes (Ok (Wrote k)) = ⊥
Writes (Err e) = ⊥

-- every class number is below n
unfoldable pub Below : ℕ → List ℕ → Type 0
Below n g = (i : ℕ) → i < length g → get_or g i 0 < n

pub record RefineSays (p : Pair) (proposal w u g : List ℕ) (z : Result Done Refused) : Type 0 where
  pub answer : (space : ℕ) → 2 * joint p + 1 ≤ space → answer_of z ≡ (paper.refine_verdict (room_of w) space (left p) (right p) proposal).answer
  pub written : (space : ℕ) → 2 * joint p + 1 ≤ space → written_by z g ≡ (paper.refine_verdict (room_of w) space (left p) (right p) proposal).written
  pub verdict : is_ok z ≡ true → Writes z
  pub below : Writes z → Below (joint p) g
  pub size : length g ≡ joint p
  pub lent : Lent w u
