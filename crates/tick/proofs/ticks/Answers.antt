use native.Mathlib.Omega.{arith}
use Rattle.tick.proofs.Vectors.{vectors_keep}
use Rattle.tick.proofs.Running.{running-start, running_more, running_end}
use Rattle.tick.proofs.ticks.Goals as goal

pub loop-t-init : goal.loop-t-init
loop-t-init c = running-start _ _ _ _ c.initial-state.ensures

pub loop-t-preserved : goal.loop-t-preserved
loop-t-preserved c =
    let kept = c.requires.whole.kept in
    let keeps = vectors_keep c.args.s.now.inputs c.args.vectors.now c.requires.vectors_len_bound c.loop-t.t c.loop-t-test.true in
    running_more _ _ _ _ _ _ c.loop-t.invariant c.one_tick-tick.result c.loop-t-test.true c.requires.vectors_in_bounds
    (omega (arith, kept.inputs, kept.few_inputs)) (rw kept.inputs at keeps) c.one_tick-tick.ensures

pub returns : goal.returns
returns c = running_end _ _ _ _ _ _ c.loop-t.invariant c.loop-t-test.false
