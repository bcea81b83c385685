-- The file is judged first, and the classes are stored only where it is good. Assumes nothing.
use Rattle.std.proofs.lemmas.Result.{err_from_is_err_and}
use Rattle.classes.proofs.Judging.{grouped_good, grouped_fault}
use Rattle.classes.proofs.read_classes.Goals as goal

pub returns-in_err-judge : goal.returns-in_err-judge
returns-in_err-judge c =
    let p = err_from_is_err_and c.from_residual.result c.from_residual.ensures.1 in
    rw (p.1, p.2) (grouped_fault _ _ _ c.in_err-judge.ensures)

pub returns : goal.returns
returns c = grouped_good _ _ _ c.in_ok-judge.ensures c.store.ensures
