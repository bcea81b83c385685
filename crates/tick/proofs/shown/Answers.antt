use mathlib.Core.Path.{◌∙◌}
use Rattle.tick.proofs.Showing.{showing_start, showing_room, showing_more, showing_end}
use Rattle.tick.proofs.shown.Goals as goal

pub loop-i-init : goal.loop-i-init
loop-i-init c = showing_start _ c.requires.kept _

pub put_output-number-requires : goal.put_output-number-requires
put_output-number-requires c = showing_room _ c.requires.kept _ _ _ c.loop-i.invariant (rw c.deref-o-items.ensures.0 at c.loop-i-test.true)

pub loop-i-preserved : goal.loop-i-preserved
loop-i-preserved c =
    showing_more _ c.requires.kept _ _ _ c.loop-i.invariant _ (rw c.deref-o-items.ensures.0 at c.loop-i-test.true)
    (c.put_output-number.ensures ∙ rw (c.at.ensures, c.from.ensures, c.deref-o-items.ensures.0))

pub returns : goal.returns
returns c = showing_end _ c.requires.kept _ _ _ c.loop-i.invariant (rw c.deref-o-items.ensures.0 at c.loop-i-test.false)
