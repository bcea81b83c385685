-- `combine` has an early answer, or goes on with the table's room. Assumes nothing.
use Rattle.diagram.specs.Contract.{Early, Gives}
use Rattle.diagram.proofs.Combining.{early_has}
use Rattle.diagram.proofs.table.Table.combine.Goals as goal

pub combine_from-made-requires : goal.combine_from-made-requires
unfolding Early
combine_from-made-requires c =
    (c.requires, rw c.in-None.is at c.early.ensures, c.room-n.ensures.0)

pub returns-in-Some-clause-gives : goal.returns-in-Some-clause-gives
unfolding Gives
returns-in-Some-clause-gives c =
    early_has _ _ c.args.op _ _ _ _ c.requires (rw c.in-Some.is at c.early.ensures)
