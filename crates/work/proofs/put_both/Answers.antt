-- f of a moment, and the same normalised. Assumes nothing.
use mathlib.Core.Path.{refl}
use Rattle.std.proofs.lemmas.Result.{err_from_is_err_and}
use Rattle.work.proofs.Both.{both_over, plain_few, normals_asks, both_says}
use Rattle.work.proofs.put_both.Goals as goal

pub returns-in_err-put_joint-clause-both : goal.returns-in_err-put_joint-clause-both
returns-in_err-put_joint-clause-both c =
    let p = err_from_is_err_and c.from_residual.result c.from_residual.ensures.1 in
    rw (p.1, p.2) (both_over c.args.f.now c.args.h.now c.requires _ _ _ _ c.in_err-put_joint.ensures.fills _)

pub shared_ref_as_front-put_byte_normals : goal.shared_ref_as_front-put_byte_normals
shared_ref_as_front-put_byte_normals c =
    plain_few c.args.f.now c.args.h.now c.requires _ _ _ c.in_ok-put_joint.ensures.fills refl

pub put_byte_normals-requires : goal.put_byte_normals-requires
put_byte_normals-requires c =
    normals_asks c.args.f.now c.args.h.now c.requires _ _ _ c.in_ok-put_joint.ensures.fills refl c.levels.ensures

pub returns-clause-both : goal.returns-clause-both
returns-clause-both c =
    both_says c.args.f.now c.args.h.now c.requires _ _ _ c.in_ok-put_joint.ensures.fills refl _ _ _ _ c.put_byte_normals.ensures.says
