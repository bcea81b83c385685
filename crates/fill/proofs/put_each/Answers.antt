use Rattle.std.proofs.Common.{refl, arith, ◌∙◌}
use Rattle.std.proofs.lemmas.Result.{err_from_is_err_and}
use Rattle.diagram.specs.Contract.{Gives}
use Rattle.fill.specs.Work.{Fills}
use Rattle.fill.proofs.Gains.{gains_ready}
use Rattle.fill.proofs.Mapped.{mapped_none, mapped_small, mapped_next, mapped_misses, mapped_end}
use Rattle.fill.proofs.put_each.Goals as goal

pub loop-v-init : goal.loop-v-init
loop-v-init g c = record { same_reference = refl; mapped = λ t k. mapped_none _ _ t _ _ _ c.requires.ready }

pub returns-in_err-made-clause-says : goal.returns-in_err-made-clause-says
unfolding Gives Fills
returns-in_err-made-clause-says g c t k =
    let p = err_from_is_err_and c.from_residual.result c.from_residual.ensures.1 in
    let so = c.loop-v.invariant.mapped t k in
    let l = c.loop-v-test.true in
    let gave = k.at _ l _ _ _ (gains_ready so.filled.gains) so.filled.gains.keeps (rw c.from.ensures at c.in_err-made.ensures) in
    rw (p.1, p.2) (mapped_misses so l gave.1.0, gave.1.1)

pub overflow_cast-out : goal.overflow_cast-out
unfolding Gives
overflow_cast-out g c =
    let k = c.requires.puts.1 in
    let so = c.loop-v.invariant.mapped _ k in
    let gave = k.at _ c.loop-v-test.true _ _ _ (gains_ready so.filled.gains) so.filled.gains.keeps (rw c.from.ensures at c.in_ok-made.ensures) in
    omega (arith, mapped_small gave.1)

pub loop-v-preserved : goal.loop-v-preserved
unfolding Gives
loop-v-preserved g c =
    let k = c.requires.puts.1 in
    let so = c.loop-v.invariant.mapped _ k in
    let l = c.loop-v-test.true in
    let post = rw c.from.ensures at c.in_ok-made.ensures in
    let gave = k.at _ l _ _ _ (gains_ready so.filled.gains) so.filled.gains.keeps post in
    record {
      same_reference = gave.0 ∙ c.loop-v.invariant.same_reference;
      mapped = λ t j.
          let so = c.loop-v.invariant.mapped t j in
          let gave = j.at _ l _ _ _ (gains_ready so.filled.gains) so.filled.gains.keeps post in
          mapped_next so l gave.1 (omega arith) (omega (arith, c.requires.sized)) refl;
    }

pub returns-clause-says : goal.returns-clause-says
unfolding Fills
returns-clause-says g c t k = mapped_end (c.loop-v.invariant.mapped t k) c.loop-v-test.false
