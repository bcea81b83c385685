-- Refine on what the files say, and what it writes. Assumes nothing.
use Rattle.yellopard.proofs.Calling.{refined_ended, refined_out, refined_refused, verdict_classes, refined_written}
use Rattle.sheet.proofs.Mapped.{exit_is}
use Rattle.yellopard.proofs.refine_files.Goals as goal

pub returns-in_err-files : goal.returns-in_err-files
returns-in_err-files c =
    rw (exit_is c.from_residual.result c.from_residual.ensures.1) (refined_ended c.in_err-files.ensures)

pub returns-then-res-needed : goal.returns-then-res-needed
returns-then-res-needed c = refined_out c.in_ok-files.ensures c.if-res-needed.true

pub returns-in_err-done : goal.returns-in_err-done
returns-in_err-done c =
    rw (exit_is c.from_residual-in_err-done.result c.from_residual-in_err-done.ensures.1) (refined_refused c.in_ok-files.ensures (rw c.proposal.ensures at c.in_err-done.ensures) _ c.if-res-needed.false)

pub write_classes-requires-clause-by_index : goal.write_classes-requires-clause-by_index
write_classes-requires-clause-by_index c =
    verdict_classes c.in_ok-files.ensures (rw c.proposal.ensures at c.in_ok-done.ensures) _ c.if-res-needed.false

pub returns : goal.returns
returns c = refined_written c.in_ok-files.ensures (rw c.proposal.ensures at c.in_ok-done.ensures) _ c.if-res-needed.false c.write_classes.ensures
