-- The step list of a grouping, worked on from its front. Assumes nothing.
use Rattle.std.proofs.lemmas.Result.{err_from_is_err_and}
use Rattle.work.proofs.Round.{equals_asks, round_over, times_asks, round_says}
use Rattle.work.proofs.StepList.{step_says, step_holds}
use Rattle.work.proofs.step_list.Goals as goal

pub put_equals-requires : goal.put_equals-requires
put_equals-requires c = equals_asks c.requires.front _ c.requires.groups c.levels-left.ensures

pub returns-in_err-q-clause-list : goal.returns-in_err-q-clause-list
returns-in_err-q-clause-list c =
    let p = err_from_is_err_and c.from_residual.result c.from_residual.ensures.1 in
    rw (p.1, p.2) (step_says c.requires.front _ c.requires.groups _ _ _ _
    (round_over c.requires.front _ c.requires.groups c.levels-left.ensures _ _ _ c.in_err-q.ensures.says _))

pub put_times-requires : goal.put_times-requires
put_times-requires c =
    times_asks c.requires.front _ c.requires.groups c.levels-left.ensures _ _ _ c.in_ok-q.ensures.says c.args.ids.now c.requires.sized

pub returns-clause-list : goal.returns-clause-list
returns-clause-list c =
    step_says c.requires.front _ c.requires.groups _ _ _ _
    (round_says c.requires.front _ c.requires.groups c.levels-left.ensures _ _ _ c.in_ok-q.ensures.says c.args.ids.now c.requires.sized _ _ _ _ c.put_times.ensures.says)

pub returns-clause-holds : goal.returns-clause-holds
returns-clause-holds c =
    step_holds c.requires.front _ c.requires.groups _ _ _ _
    (round_says c.requires.front _ c.requires.groups c.levels-left.ensures _ _ _ c.in_ok-q.ensures.says c.args.ids.now c.requires.sized _ _ _ _ c.put_times.ensures.says)
