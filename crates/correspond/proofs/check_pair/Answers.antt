-- Stage by stage. Assumes nothing.
use Rattle.std.proofs.Common.{rules, arith}
use Rattle.work.specs.Stages.{FrontSays}
use Rattle.correspond.proofs.Verdicts.{check_lent, check_no_start, Started, started, check-start, passed, check_no_front, Fronted, fronted, check_no_step, Stepped, stepped, check-step, check_outputs}
use Rattle.correspond.proofs.check_pair.Goals as goal
use Rattle.correspond.proofs.check_pair.Goals.{In-Ok, In-Ok-front_list, In-Ok-step_list}

-- the start list is worked
begun : (c : In-Ok) → Started c.requires c.args.t.now c.start_list.new.table.words.now c.start_list.new.table.head c.start_list.new.ids
begun c = started c.requires _ c.new-table.ensures.words _ _ _ _ _ c.in-Ok.ensures.list c.new-table.ensures.head.1

-- Start holds, and the front of the step list is worked
after : (c : In-Ok-front_list) → Fronted c.requires c.args.t.now c.front_list.new.table.words.now c.front_list.new.table.head
unfolding FrontSays
after c =
    let none = rw c.in_default-fault.is at c.fault.ensures in
    fronted c.requires _ (begun (goal.at.In-Ok-front_list c).In-Ok) (omega (arith, none)) c.in-Ok-front_list.ensures.front

-- the step list is worked
gone : (c : In-Ok-step_list) → Stepped c.requires c.args.t.now c.step_list.new.table.words.now c.step_list.new.table.head c.step_list.new.ids
gone c = stepped c.requires _ (after (goal.at.In-Ok-step_list c).In-Ok-front_list) _ _ _ _ c.in-Ok-step_list.ensures.list

pub returns-in_default : goal.returns-in_default
returns-in_default c =
    rw c.no_room.ensures
    (check_lent (search rules) (check_no_start c.requires _ c.new-table.ensures.words _ _ _ _ _ c.in_default.ensures.list))

pub returns-in-Some : goal.returns-in-Some
returns-in-Some c =
    let found = rw c.in-Some.is at c.fault.ensures in
    check_lent (search rules) (check-start c.requires _ (begun (goal.at.returns-in-Some c).In-Ok) found.0 found.1)

pub returns-in_default-front_list : goal.returns-in_default-front_list
returns-in_default-front_list c =
    let none = rw c.in_default-fault.is at c.fault.ensures in
    let s = passed c.requires _ (begun (goal.at.returns-in_default-front_list c).In-Ok) (omega (arith, none)) in
    rw c.no_room-in_default-front_list.ensures
    (check_lent (search rules) (check_no_front c.requires _ s _ _ _ _ _ _ c.in_default-front_list.ensures.front))

pub returns-in_default-step_list : goal.returns-in_default-step_list
returns-in_default-step_list c =
    let s = after (goal.at.returns-in_default-step_list c).In-Ok-front_list in
    rw c.no_room-in_default-step_list.ensures
    (check_lent (search rules) (check_no_step c.requires _ s.passed _ _ _ _ _ c.in_default-step_list.ensures.list))

pub returns-in-Some-fault : goal.returns-in-Some-fault
returns-in-Some-fault c =
    let found = rw c.in-Some-fault.is at c.fault-2.ensures in
    check_lent (search rules) (check-step c.requires _ (gone (goal.at.returns-in-Some-fault c).In-Ok-step_list) found.0 found.1)

pub returns : goal.returns
returns c =
    let none = rw c.in_default-fault-2.is at c.fault-2.ensures in
    check_lent (search rules) (check_outputs c.requires _ (gone (goal.at.returns c).In-Ok-step_list) (omega (arith, none)) c.outputs.ensures)
