-- The step list, the split, whether anything was split, and what is forgotten then. Assumes nothing.
use Rattle.std.proofs.lemmas.Result.{err_from_is_err_and}
use Rattle.correspond.proofs.Verdicts.{round_over, round_stays, round_splits}
use Rattle.correspond.proofs.one_round.Goals as goal

pub returns-in_err-step_list-clause-round : goal.returns-in_err-step_list-clause-round
returns-in_err-step_list-clause-round c =
    let p = err_from_is_err_and c.from_residual.result c.from_residual.ensures.1 in
    rw (p.1, p.2) (round_over c.requires.grouped _ _ _ _ _ _ _ _ c.in_err-step_list.ensures.list)

pub returns-then-eq-clause-round : goal.returns-then-eq-clause-round
returns-then-eq-clause-round c =
    round_stays c.requires.grouped _ _ _ _ _ _ _ _ c.in_ok-step_list.ensures.list _ c.split.ensures _ c.eq.ensures c.if-eq.true

pub returns-clause-round : goal.returns-clause-round
returns-clause-round c =
    round_splits c.requires.grouped _ _ _ _ _ _ _ _ c.in_ok-step_list.ensures.list _ c.split.ensures _ c.eq.ensures
    c.if-eq.false _ c.copy_from_slice.ensures.after c.requires.front c.in_ok-step_list.ensures.holds _ _ c.forget.ensures.forgets
