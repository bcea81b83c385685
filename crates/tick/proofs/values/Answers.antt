use mathlib.Core.Path.{◌∙◌}
use Rattle.tick.specs.Tick.{padded}
use Rattle.tick.proofs.Valuing.{valuing_start, valuing_register, valuing_input, valuing_gate, valuing_end}
use Rattle.tick.proofs.values.Goals as goal
use Rattle.tick.proofs.values.Goals.{in-Register, in-Input, in-Not}

pub loop-i-init : goal.loop-i-init
unfolding padded
loop-i-init c = valuing_start _ c.requires.kept _ _

pub loop-i-preserved : goal.loop-i-preserved
loop-i-preserved c =
    let is = c.deref-x-items.ensures.0 in
    elim c.match-x.branch [
      | in-Register w ↦ rw (w.registers-is, w.inputs-is)
          (valuing_register _ c.requires.kept _ _ _ _ _ _ c.loop-i.invariant c.value.result (rw is at c.loop-i-test.true) (c.value.ensures ∙ rw (is, c.at.ensures, c.input.ensures, c.deref.ensures.0)) (rw is at w.in-Register.is))
      | in-Input w ↦ rw (w.registers-is, w.inputs-is)
          (valuing_input _ c.requires.kept _ _ _ _ _ _ c.loop-i.invariant c.value.result (rw is at c.loop-i-test.true) (c.value.ensures ∙ rw (is, c.at.ensures, c.input.ensures, c.deref.ensures.0)) (rw is at w.in-Input.is))
      | in-Not w ↦ rw (w.registers-is, w.inputs-is)
          (valuing_gate _ c.requires.kept _ _ _ _ _ _ c.loop-i.invariant c.value.result (rw is at c.loop-i-test.true) (c.value.ensures ∙ rw (is, c.at.ensures, c.input.ensures, c.deref.ensures.0)) (rw is at w.in-Not.is))
    ]

pub returns : goal.returns
returns c = valuing_end _ c.requires.kept _ _ _ _ _ _ c.loop-i.invariant (rw c.deref-x-items.ensures.0 at c.loop-i-test.false)
