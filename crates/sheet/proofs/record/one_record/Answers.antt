-- One record is judged as the paper says, at each return. Assumes nothing.
use Rattle.sheet.proofs.Judged.{judged_kind, judged_short, judged_many, judged_value, judged_later, judged_signal, judged_output, judged_end}
use Rattle.sheet.proofs.Mapped.{exit_is}
use Rattle.sheet.proofs.record.one_record.Goals as goal

pub returns-in_err-kind : goal.returns-in_err-kind
returns-in_err-kind c =
    rw (exit_is c.from_residual.result c.from_residual.ensures.1) (judged_kind _ _ c.requires _ c.in_err-kind.ensures)

pub returns-then-rest-body : goal.returns-then-rest-body
returns-then-rest-body c = judged_short _ _ c.requires _ c.in_ok-kind.ensures c.body.ensures.value c.if-rest-body.true

pub returns-then-is_one_too_many : goal.returns-then-is_one_too_many
returns-then-is_one_too_many c =
    judged_many _ _ c.requires _ c.in_ok-kind.ensures c.body.ensures.value c.if-rest-body.false c.if-is_one_too_many.ensures

pub returns-then-has_bad_value : goal.returns-then-has_bad_value
returns-then-has_bad_value c =
    judged_value _ _ c.requires _ c.in_ok-kind.ensures c.body.ensures.value c.if-rest-body.false c.if-is_one_too_many.ensures
    _ c.in-Signal.is _ c.read-x.ensures c.if-has_bad_value.ensures

pub returns-then-has_later_operand : goal.returns-then-has_later_operand
returns-then-has_later_operand c =
    judged_later _ _ c.requires _ c.in_ok-kind.ensures c.body.ensures.value c.if-rest-body.false c.if-is_one_too_many.ensures
    _ c.in-Signal.is _ c.read-x.ensures c.if-has_bad_value.ensures (rw c.len.ensures.value at c.if-has_later_operand.ensures)

pub returns-else-has_later_operand : goal.returns-else-has_later_operand
returns-else-has_later_operand c =
    judged_signal _ _ c.requires _ c.in_ok-kind.ensures c.body.ensures.value c.if-rest-body.false c.if-is_one_too_many.ensures
    _ c.in-Signal.is _ c.read-x.ensures c.if-has_bad_value.ensures (rw c.len.ensures.value at c.if-has_later_operand.ensures)

pub returns-in-Output : goal.returns-in-Output
returns-in-Output c =
    judged_output _ _ c.requires _ c.in_ok-kind.ensures c.body.ensures.value c.if-rest-body.false c.if-is_one_too_many.ensures c.in-Output.is

pub returns-in-End : goal.returns-in-End
returns-in-End c =
    judged_end _ _ c.requires _ c.in_ok-kind.ensures c.body.ensures.value c.if-rest-body.false c.if-is_one_too_many.ensures c.in-End.is
