-- The equality, then its product with those before. Assumes nothing.
use Rattle.std.proofs.lemmas.Result.{err_from_is_err_and}
use Rattle.diagram.specs.Contract.{Gives}
use Rattle.fill.specs.Work.{Ends}
use Rattle.fill.proofs.Equals.{equal_misses, product_asks, equal_ends}
use Rattle.fill.proofs.put_equal.Goals as goal

pub returns-in_err-same-clause-says : goal.returns-in_err-same-clause-says
unfolding Gives Ends
returns-in_err-same-clause-says c =
    let p = err_from_is_err_and c.from_residual.result c.from_residual.ensures.1 in
    rw (p.1, p.2) (equal_misses c.requires c.in_err-same.ensures.gives.0, c.in_err-same.ensures.gives.1)

pub combine-requires-2 : goal.combine-requires-2
unfolding Gives
combine-requires-2 c = product_asks c.requires c.in_ok-same.ensures.gives

pub returns-clause-says : goal.returns-clause-says
unfolding Gives
returns-clause-says c = equal_ends c.requires c.in_ok-same.ensures.gives _ _ _ c.combine-2.ensures.gives
