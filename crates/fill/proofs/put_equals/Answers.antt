use Rattle.std.proofs.Common.{rules, refl}
use Rattle.std.proofs.lemmas.Result.{err_from_is_err_and}
use Rattle.fill.proofs.Equalled.{equalled_none, equalled_next, equalled_full, equalled_end}
use Rattle.fill.proofs.put_equals.Goals as goal

pub loop-v-init : goal.loop-v-init
loop-v-init c = record { same_reference = refl; equalled = equalled_none c.requires }

pub returns-in_err-q-clause-says : goal.returns-in_err-q-clause-says
returns-in_err-q-clause-says c =
    let p = err_from_is_err_and c.from_residual.result c.from_residual.ensures.1 in
    rw (p.1, p.2) (equalled_full c.requires c.loop-v.invariant.equalled c.loop-v-test.true _ _ _ c.in_err-q.ensures.says)

pub loop-v-preserved : goal.loop-v-preserved
loop-v-preserved c = record {
  same_reference = search rules;
  equalled = equalled_next c.requires c.loop-v.invariant.equalled c.loop-v-test.true _ _ c.in_ok-q.ensures.says;
}

pub returns-clause-says : goal.returns-clause-says
returns-clause-says c = equalled_end c.requires c.loop-v.invariant.equalled c.loop-v-test.false
