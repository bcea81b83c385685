use native.Mathlib.Omega.{arith}
use Rattle.std.proofs.Common.{rules}
use Rattle.tick.proofs.Holding.{holding_start, holding_room, holding_other, holding_more, holding_end}
use Rattle.tick.proofs.state_by.Goals as goal
use Rattle.tick.proofs.state_by.Goals.{then-eq, else-eq}

pub loop-x-init : goal.loop-x-init
loop-x-init g c = holding_start _ _ _ c.new-held.ensures

pub push-requires : goal.push-requires
push-requires g c =
    let is = c.deref-x-items.ensures.0 in
    (omega arith, holding_room _ _ c.requires.whole.kept _ _ c.loop-x.invariant (rw is at c.loop-x-test.true) (rw (← is) (search rules)))

pub loop-x-preserved : goal.loop-x-preserved
loop-x-preserved g c =
    let is = c.deref-x-items.ensures.0 in
    elim c.if-eq.branch [
      | then-eq w ↦ rw w.held-is
          (holding_more _ _ c.requires.whole.kept _ _ c.loop-x.invariant (rw is at c.loop-x-test.true) _ w.value.result w.push.ensures.items (rw (← is) (search rules))
          (λ f gives. rw (← is) (gives _ _ w.value.ensures (search rules))))
      | else-eq w ↦ rw w.held-is
          (holding_other _ _ c.requires.whole.kept _ _ c.loop-x.invariant (rw is at c.loop-x-test.true) (rw (← is) (search rules)))
    ]

pub returns : goal.returns
returns g c = holding_end _ _ _ _ c.loop-x.invariant (rw c.deref-x-items.ensures.0 at c.loop-x-test.false)
