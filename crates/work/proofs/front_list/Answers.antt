-- The front of the step list, worked from an emptied table. Assumes nothing.
use mathlib.Core.Path.{refl}
use lib.ListN.{length}
use Rattle.std.proofs.lemmas.Result.{err_from_is_err_and}
use Rattle.work.proofs.FrontList.{Emptied, now_asks, now_over, array_few, array_sized, next_asks, front_says}
use Rattle.work.proofs.front_list.Goals as goal
use Rattle.work.proofs.front_list.Goals.{After-forget}

-- the table is emptied
emptied : (c : After-forget) → Emptied c.args.p.now (length c.args.h.now) (length c.args.h_next.now) c.args.table.now.words.now c.args.table.now.head
    c.forget.new.self.words.now c.forget.new.self.head
emptied c = record { alike = c.requires.alike; size = c.requires.sized; size' = c.requires.next_sized; empty = c.forget.ensures.forgets }

pub put_both-requires : goal.put_both-requires
put_both-requires c =
    now_asks (emptied (goal.at.put_both-requires c).After-forget)

pub returns-in_err-put_both-clause-front : goal.returns-in_err-put_both-clause-front
returns-in_err-put_both-clause-front c =
    let p = err_from_is_err_and c.from_residual.result c.from_residual.ensures.1 in
    rw (p.1, p.2) (now_over (emptied (goal.at.returns-in_err-put_both-clause-front c).After-forget) _ _ _ _ _ c.in_err-put_both.ensures.both _)

pub slice_bounds-f-end-2 : goal.slice_bounds-f-end-2
slice_bounds-f-end-2 c =
    array_few (emptied (goal.at.slice_bounds-f-end-2 c).After-forget) _ _ _ _ c.in_ok-put_both.ensures.both

pub slice_bounds-put_both-end-2 : goal.slice_bounds-put_both-end-2
slice_bounds-put_both-end-2 c =
    array_sized (emptied (goal.at.slice_bounds-put_both-end-2 c).After-forget) _ _ _ _ c.in_ok-put_both.ensures.both

pub put_both-requires-2 : goal.put_both-requires-2
put_both-requires-2 c =
    next_asks (emptied (goal.at.put_both-requires-2 c).After-forget) _ _ _ _ c.in_ok-put_both.ensures.both _ refl

pub returns-clause-front : goal.returns-clause-front
returns-clause-front c =
    front_says (emptied (goal.at.returns-clause-front c).After-forget) _ _ _ _ c.in_ok-put_both.ensures.both _ _ _ _ _ _ c.put_both-2.ensures.both
