-- A, B, UNLIKE, grouping: each file is read, and the first refusal ends the call. Assumes nothing.
use Rattle.std.proofs.Common.{rules}
use mathlib.Core.Path.{◌∙◌}
use Rattle.answer.specs.declared.File.TheVariants.{A, B}
use Rattle.answer.specs.Meant.{refused_in}
use Rattle.sheet.proofs.Files.{reads_ok, reads_err}
use Rattle.sheet.proofs.Mapped.{mapped_ok, exit_is}
use Rattle.work.proofs.Front.{zeros_front}
use Rattle.yellopard.proofs.Stages.{ends_at_A, ends_at_B, TwoSheets, two_sheets, joint_few, pair_asks, ends_with_inputs, ends_with_outputs, ends_with-grouping, files_ready}
use Rattle.yellopard.proofs.files.read_files.Goals as goal
use Rattle.yellopard.proofs.files.read_files.Goals.{In_ok-new}

-- both files say sheets
sheets : (c : In_ok-new) → TwoSheets c.args.a.now c.args.b.now c.in_ok-old.old c.in_ok-new.new
sheets c =
    two_sheets (reads_ok _ c.read_sheet.ensures c.map_err.ensures.cases c.in_ok-old.was) (reads_ok _ c.read_sheet-2.ensures c.map_err-2.ensures.cases c.in_ok-new.was)

pub returns-in_err-old : goal.returns-in_err-old
returns-in_err-old c =
    let m = reads_err _ c.read_sheet.ensures c.map_err.ensures.cases (λ e. refused_in e A) (λ e d q. search rules) c.in_err-old.was in
    rw (exit_is c.from_residual.result c.from_residual.ensures.1, m.1) (ends_at_A {e = m.0} m.2)

pub returns-in_err-new : goal.returns-in_err-new
returns-in_err-new c =
    let m = reads_err _ c.read_sheet-2.ensures c.map_err-2.ensures.cases (λ e. refused_in e B) (λ e d q. search rules) c.in_err-new.was in
    rw (exit_is c.from_residual-in_err-new.result c.from_residual-in_err-new.ensures.1, m.1) (ends_at_B (reads_ok _ c.read_sheet.ensures c.map_err.ensures.cases c.in_ok-old.was) {e = m.0} m.2)

pub returns-then-old-new : goal.returns-then-old-new
returns-then-old-new c =
    rw c.unlike.ensures (ends_with_inputs (sheets (goal.at.returns-then-old-new c).In_ok-new) _ c.if-old-new.true)

pub returns-then-len : goal.returns-then-len
returns-then-len c =
    rw c.unlike-then-len.ensures
    (ends_with_outputs (sheets (goal.at.returns-then-len c).In_ok-new) _ c.if-old-new.false (rw (c.len.ensures.value, c.len-2.ensures.value) at c.if-len.true))

pub returns-in_err-map_err : goal.returns-in_err-map_err
returns-in_err-map_err c =
    rw (exit_is c.from_residual-in_err-map_err.result c.from_residual-in_err-map_err.ensures.1)
    (ends_with-grouping (sheets (goal.at.returns-in_err-map_err c).In_ok-new) _ c.if-old-new.false (rw (c.len.ensures.value, c.len-2.ensures.value) at c.if-len.false) _ _
    (rw (c.len-3.ensures.value, c.len-4.ensures.value) at c.read_classes.ensures) _ c.map_err-3.ensures.cases (λ e d q. search rules) c.in_err-map_err.was)

pub pair_of-pair-requires : goal.pair_of-pair-requires
pair_of-pair-requires c = pair_asks (sheets (goal.at.pair_of-pair-requires c).In_ok-new) c.if-old-new.false

pub returns : goal.returns
returns c =
    let both = sheets (goal.at.returns c).In_ok-new in
    rw (c.len-3.ensures.value, c.len-4.ensures.value) (
    files_ready both _ c.if-old-new.false (rw (c.len.ensures.value, c.len-2.ensures.value) at c.if-len.false) _ _
    (rw (c.len-3.ensures.value, c.len-4.ensures.value) at c.read_classes.ensures) (mapped_ok _ _ _ _ c.map_err-3.ensures.cases c.in_ok-map_err.was)
    (rw (c.len-3.ensures.value, c.len-4.ensures.value) at c.read_classes.auto.classes ∙ zeros_front _ (joint_few both)) _ c.pair_of-pair.ensures
    )
