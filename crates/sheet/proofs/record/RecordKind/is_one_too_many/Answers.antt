-- MANY, as the paper says. Assumes nothing.
use Rattle.std.proofs.Common.{sym}
use Rattle.sheet.proofs.Tests.{full_is, many_signal, many_output, many_end}
use Rattle.sheet.proofs.record.RecordKind.is_one_too_many.Goals as goal

pub returns-in-Output : goal.returns-in-Output
returns-in-Output c =
    rw (c.in-Output.is, c.is_full.ensures.value, full_is _ _ c.is_full.ensures.fits) (sym (many_output c.requires))

pub returns-in-End : goal.returns-in-End
returns-in-End c = rw c.in-End.is (sym (many_end c.requires))

pub returns-then-is_full : goal.returns-then-is_full
returns-then-is_full c =
    rw (c.in-Signal.is, many_signal c.requires c.in-Signal.kind, ← full_is _ _ c.requires.few_signals, ← c.is_full-in-Signal.ensures.value, c.if-is_full.true)

pub returns-else-is_full : goal.returns-else-is_full
returns-else-is_full c =
    rw (c.in-Signal.is, many_signal c.requires c.in-Signal.kind, ← full_is _ _ c.requires.few_signals, ← c.is_full-in-Signal.ensures.value, c.if-is_full.false, c.is_full_of.ensures)
