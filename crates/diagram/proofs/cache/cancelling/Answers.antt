-- `cache::cancelling` is right for every operation that cancels. Assumes nothing.
use Rattle.std.proofs.Common.{◌≡◌, arith}
use borrow.Author.Tests.{eqb-true, eqb-false}
use Rattle.diagram.specs.Contract.{Cancelled, Early}
use Rattle.diagram.proofs.Early.{left_unit, right_unit, same_constant, then_some_cases}
use Rattle.diagram.proofs.cache.cancelling.Goals as goal

pub returns-then-a-unit : goal.returns-then-a-unit
unfolding Cancelled Early
returns-then-a-unit c =
    λ op k w n g lx ly. let e : c.args.a ≡ c.args.unit = c.if-a-unit.true in left_unit op w n c.args.a c.args.b g lx ly (omega arith) (rw e k.left_unit)

pub returns-then-b-unit : goal.returns-then-b-unit
unfolding Cancelled Early
returns-then-b-unit c =
    λ op k w n g lx ly. let e : c.args.b ≡ c.args.unit = c.if-b-unit.true in right_unit op w n c.args.a c.args.b g lx ly (omega arith) (rw e k.right_unit)

pub returns-else-b-unit : goal.returns-else-b-unit
unfolding Cancelled Early
returns-else-b-unit c =
    λ op k. rw c.then_some.ensures (then_some_cases (Early op c.args.a c.args.b) _ _
    (λ q w n g lx ly. same_constant op w n c.args.a c.args.b g lx ly c.args.unit (omega arith) (eqb-true _ _ q) k.itself)
    (λ q lx ly. let e = eqb-false _ _ q in omega arith))
