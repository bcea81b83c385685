use Rattle.std.proofs.Common.{◌≡◌, refl, arith}
use Rattle.diagram.proofs.Forgetting.{renewed_good, forgets_some, remain_all, remain_fewer}
use Rattle.diagram.proofs.forget.forget.Goals as goal

pub loop-i-init : goal.loop-i-init
loop-i-init c = (c.requires.1, remain_all _ _ (renewed_good _ _ _ c.requires.0.good c.renew.ensures) c.renew.ensures.silent)

pub loop-i-preserved : goal.loop-i-preserved
loop-i-preserved c =
    let inv = c.loop-i.invariant in
    (omega arith, rw c.unlink.ensures (remain_fewer _ _ _ _ _ inv.1 (omega arith)))

pub returns : goal.returns
returns c =
    let inv = c.loop-i.invariant in
    let e : c.loop-i.i ≡ c.args.mark = omega arith in
    forgets_some _ _ _ _ _ _ c.requires.0 c.renew.ensures (rw e at inv.1) refl refl
