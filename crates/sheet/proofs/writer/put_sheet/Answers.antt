use Rattle.sheet.proofs.Puts.{puts_none}
use Rattle.sheet.proofs.Putting.{signal_room, signal_more, signals_end, output_room, output_more, end_room, sheet_put}
use Rattle.sheet.proofs.writer.put_sheet.Goals as goal

pub loop-x-init : goal.loop-x-init
loop-x-init c = puts_none

pub put_signal-at-requires : goal.put_signal-at-requires
put_signal-at-requires c =
    let is = c.deref-x-items.ensures.0 in
    rw is (signal_room _ _ c.requires c.loop-x.invariant (rw is at c.loop-x-test.true))

pub loop-x-preserved : goal.loop-x-preserved
loop-x-preserved c =
    let is = c.deref-x-items.ensures.0 in
    signal_more _ _ c.requires c.loop-x.invariant (rw is at c.loop-x-test.true) (rw is at c.put_signal-at.ensures)

pub loop-o-init : goal.loop-o-init
loop-o-init c = puts_none

pub put-at-requires : goal.put-at-requires
put-at-requires c =
    output_room _ _ c.requires (signals_end _ _ c.requires c.loop-x.invariant (rw c.deref-x-items.ensures.0 at c.loop-x-test.false))
    c.loop-o.invariant (rw c.deref-o-items.ensures.0 at c.loop-o-test.true)

pub loop-o-preserved : goal.loop-o-preserved
loop-o-preserved c =
    let is = c.deref-o-items.ensures.0 in
    output_more _ _ c.requires (signals_end _ _ c.requires c.loop-x.invariant (rw c.deref-x-items.ensures.0 at c.loop-x-test.false))
    c.loop-o.invariant (rw is at c.loop-o-test.true) (rw is at c.put-at.ensures)

pub bounds-res-at : goal.bounds-res-at
bounds-res-at c =
    end_room _ _ c.requires (signals_end _ _ c.requires c.loop-x.invariant (rw c.deref-x-items.ensures.0 at c.loop-x-test.false))
    c.loop-o.invariant (rw c.deref-o-items.ensures.0 at c.loop-o-test.false)

pub returns : goal.returns
returns c =
    sheet_put _ _ c.requires (signals_end _ _ c.requires c.loop-x.invariant (rw c.deref-x-items.ensures.0 at c.loop-x-test.false))
    c.loop-o.invariant (rw c.deref-o-items.ensures.0 at c.loop-o-test.false)
