use native.Mathlib.Omega.{arith}
use Rattle.std.proofs.Common.{rules}
use Rattle.std.specs.Prelude.{Ok}
use Rattle.sheet.proofs.Mapped.{mapped_err, exit_is}
use Rattle.sheet.proofs.Turns.{Ahead, ahead, ahead_sound, turn_start, turn_short, turn_faulty, turn_ended, turn_fits, turn_inside, turn_more}
use Rattle.sheet.proofs.reader.read_sheet.Goals as goal
use Rattle.sheet.proofs.reader.read_sheet.Goals.{In_ok-record}

-- the record at the present offset is sound
here : (c : In_ok-record) → Ahead c.args.file.now c.loop-at.part c.loop-at.at (Ok c.in_ok-record.record)
here c = ahead_sound _ c.loop-at.invariant c.loop-at-test.true c.one_record.ensures c.map_err.ensures.cases c.in_ok-record.was

pub loop-at-init : goal.loop-at-init
loop-at-init c = turn_start c.args.file.now c.empty-part.result c.empty-part.ensures

pub returns-in_err-record : goal.returns-in_err-record
returns-in_err-record c =
    let m = mapped_err _ (λ e. record { refusal = e; at = c.loop-at.at }) (λ e d q. search rules) c.one_record.result c.map_err.result _ c.map_err.ensures.cases c.in_err-record.was in
    rw (exit_is c.from_residual.result c.from_residual.ensures.1, m.2) (turn_faulty (ahead c.loop-at.invariant c.loop-at-test.true (rw m.1 at c.one_record.ensures)))

pub returns-in-End : goal.returns-in-End
returns-in-End c = turn_ended (rw c.in-End.is at (here (goal.at.returns-in-End c).In_ok-record)) c.ended.ensures

pub add-requires : goal.add-requires
add-requires c = (c.loop-at.invariant.kept, turn_fits (here (goal.at.add-requires c).In_ok-record))

pub overflow_add-at : goal.overflow_add-at
overflow_add-at c = omega (arith, turn_inside (here (goal.at.overflow_add-at c).In_ok-record), c.len.ensures, c.well_formed)

pub loop-at-preserved : goal.loop-at-preserved
loop-at-preserved c =
    turn_more (here (goal.at.loop-at-preserved c).In_ok-record) c.in_default.not-End c.add.ensures c.len.ensures

pub returns : goal.returns
returns c = turn_short c.args.file.now c.loop-at.part c.loop-at.at c.loop-at.invariant c.loop-at-test.false
