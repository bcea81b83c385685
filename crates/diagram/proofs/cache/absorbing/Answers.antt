-- `cache::absorbing` is right for every operation that absorbs. Assumes nothing.
use Rattle.std.proofs.Common.{◌≡◌, arith}
use mathlib.Core.Logic.{⊎_elim}
use borrow.Author.Tests.{ltb-true, ltb-false}
use Rattle.diagram.specs.Contract.{Absorbed, Early}
use Rattle.diagram.proofs.Early.{left_unit, right_unit, left-zero, right_zero, same_same, other_constant, then_some_cases}
use Rattle.diagram.proofs.cache.absorbing.Goals as goal

pub returns-then-a-unit : goal.returns-then-a-unit
unfolding Absorbed Early
returns-then-a-unit c =
    λ op k w n g lx ly. let e : c.args.a ≡ c.args.unit = c.if-a-unit.true in left_unit op w n c.args.a c.args.b g lx ly (omega arith) (rw e k.left_unit)

pub returns-then-a-lt2 : goal.returns-then-a-lt2
unfolding Absorbed Early
returns-then-a-lt2 c =
    λ op k w n g lx ly. ⊎_elim
    (λ (e : c.args.b ≡ c.args.unit). right_unit op w n c.args.a c.args.b g lx ly (omega arith) (rw e k.right_unit))
    (λ r. ⊎_elim
    (λ q. same_same op w n c.args.a c.args.b g lx ly q.1 k.itself)
    (λ q. left-zero op w n c.args.a c.args.b g lx ly q.2 (rw (← other_constant c.args.unit c.args.a (omega arith) q.2 c.if-a-unit.false) k.left-zero))
    r)
    c.if-a-lt2.either

pub returns-else-a-lt2 : goal.returns-else-a-lt2
unfolding Absorbed Early
returns-else-a-lt2 c =
    λ op k. rw c.then_some.ensures (then_some_cases (Early op c.args.a c.args.b) _ _
    (λ q w n g lx ly.
    let small = ltb-true _ _ q in
    right_zero op w n c.args.a c.args.b g lx ly small (rw (← other_constant c.args.unit c.args.b (omega arith) small c.if-a-lt2.false.0) k.right_zero))
    (λ q lx ly. let big = ltb-false _ _ q in omega arith))
