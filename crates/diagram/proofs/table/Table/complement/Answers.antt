-- `complement` is equality with the constant 0. Assumes nothing.
use Rattle.diagram.proofs.Combining.{complement_asks, complement_is}
use Rattle.diagram.proofs.table.Table.complement.Goals as goal

pub combine-requires : goal.combine-requires
combine-requires c = complement_asks _ _ _ _ c.requires

pub returns-clause-gives : goal.returns-clause-gives
returns-clause-gives c = rw (complement_is _ _ _) at c.combine.ensures.gives
