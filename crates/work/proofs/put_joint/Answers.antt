-- f of the joint list: the pass over A, then the pass over B. Assumes nothing.
use native.Mathlib.Omega.{arith}
use Rattle.std.proofs.lemmas.Result.{err_from_is_err_and}
use Rattle.work.proofs.Joining.{levels_are, first_asks, joint_over, second_asks, joint_fills}
use Rattle.work.proofs.put_joint.Goals as goal

pub put_sheet-requires : goal.put_sheet-requires
put_sheet-requires c = first_asks c.args.ids.now c.requires c.levels-left.ensures c.new-over_a.ensures

pub returns-in_err-put_sheet-clause-fills : goal.returns-in_err-put_sheet-clause-fills
returns-in_err-put_sheet-clause-fills c =
    let p = err_from_is_err_and c.from_residual.result c.from_residual.ensures.1 in
    rw (p.1, p.2) (joint_over c.args.ids.now c.requires c.levels-left.ensures c.new-over_a.ensures _ _ _ _ c.in_err-put_sheet.ensures.sheet)

pub new-over_b-requires : goal.new-over_b-requires
new-over_b-requires c = (c.requires.alike.whole_a.kept.few_inputs, omega (arith, c.levels-left.ensures, levels_are _ c.requires.alike))

pub put_sheet-requires-2 : goal.put_sheet-requires-2
put_sheet-requires-2 c =
    second_asks c.args.ids.now c.requires c.levels-left.ensures c.new-over_a.ensures _ _ _ c.in_ok-put_sheet.ensures.sheet (rw c.len.ensures.value at c.new-over_b.ensures)

pub returns-clause-fills : goal.returns-clause-fills
returns-clause-fills c =
    joint_fills c.args.ids.now c.requires c.levels-left.ensures c.new-over_a.ensures _ _ _ c.in_ok-put_sheet.ensures.sheet (rw c.len.ensures.value at c.new-over_b.ensures) _ _ _ _ c.put_sheet-2.ensures.sheet
