-- Stage by stage. Assumes nothing.
use Rattle.std.proofs.Common.{rules}
use Rattle.std.proofs.lemmas.Result.{err_from_is_err_and}
use mathlib.Core.Path.{refl}
use Rattle.work.specs.Stages.{FrontSays}
use Rattle.correspond.proofs.Refining.{refine_lent, refine_no_start, begun, refine_no_front, Begun, Fronted, fronted, refine_over, refine-after}
use Rattle.correspond.proofs.refine_pair.Goals as goal
use Rattle.correspond.proofs.refine_pair.Goals.{After-split, In-Ok-front_list}

-- the start list is worked, and the proposal is split by it
first : (c : After-split) → Begun c.requires.grouped c.args.t.now c.start_list.new.table.words.now c.split.new.out c.start_list.new.table.head
first c = begun c.requires.grouped _ c.new-table.ensures.words _ _ _ _ _ c.in-Ok.ensures.list c.new-table.ensures.head.1 c.split.ensures

-- the front of the step lists is worked
second : (c : In-Ok-front_list)
    → Fronted c.requires.grouped c.args.t.now c.front_list.new.table.words.now c.split.new.out c.front_list.new.table.head
unfolding FrontSays
second c = fronted c.requires.grouped _ (first (goal.at.In-Ok-front_list c).After-split) c.in-Ok-front_list.ensures.front

pub returns-in_default : goal.returns-in_default
returns-in_default c =
    rw c.no_room.ensures
    (refine_lent (search rules)
    (refine_no_start c.requires.grouped _ c.new-table.ensures.words _ _ _ _ _ c.in_default.ensures.list c.requires.sized))

pub returns-in_default-front_list : goal.returns-in_default-front_list
returns-in_default-front_list c =
    let s = first (goal.at.returns-in_default-front_list c).After-split in
    rw c.no_room-in_default-front_list.ensures
    (refine_lent (search rules) (refine_no_front c.requires.grouped _ s _ _ _ _ _ c.in_default-front_list.ensures.front))

pub settle-requires-clause-front : goal.settle-requires-clause-front
unfolding FrontSays
settle-requires-clause-front c = c.in-Ok-front_list.ensures.front.front

pub returns-in_err-rounds : goal.returns-in_err-rounds
returns-in_err-rounds c =
    let s = second (goal.at.returns-in_err-rounds c).In-Ok-front_list in
    let p = err_from_is_err_and c.from_residual.result c.from_residual.ensures.1 in
    rw (p.1, p.2) (refine_lent (search rules) (refine_over c.requires.grouped _ s c.in_err-rounds.ensures.settled refl))

pub returns : goal.returns
returns c =
    let s = second (goal.at.returns c).In-Ok-front_list in
    refine_lent (search rules)
    (refine-after c.requires.grouped _ s c.in_ok-rounds.ensures.settled refl c.outputs.ensures)
