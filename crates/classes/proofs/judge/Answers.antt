use native.Mathlib.Omega.{arith}
use Rattle.std.proofs.Common.{rules}
use Rattle.classes.proofs.Judging.{judging_start, judging_class}
use Rattle.classes.proofs.judge.Goals as goal

pub loop-count-init : goal.loop-count-init
loop-count-init c = (search rules, search rules, judging_start _ _ _ (search rules) (search rules) (search rules))

pub loop-count-preserved : goal.loop-count-preserved
loop-count-preserved c = (
  search rules,
  search rules,
  judging_class _ _ _ c.loop-count.invariant.2 _ c.in-Some.chunk _ c.in-Some.ensures.steps (omega arith) (omega arith),
)
