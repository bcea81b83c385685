-- The rounds so far, and how they end. Assumes nothing.
use mathlib.Core.Path.{◌∙◌}
use native.Mathlib.Omega.{arith}
use Rattle.correspond.proofs.Settling.{settling_next, settling_stays, settling_over, settling_past}
use Rattle.correspond.proofs.settle.Goals as goal

pub returns-in-Ok-Stays-clause-settled : goal.returns-in-Ok-Stays-clause-settled
returns-in-Ok-Stays-clause-settled c = settling_stays c.loop-r.invariant.settling (rw c.in-Ok-Stays.field-0-is at c.in-Ok-Stays.ensures.round)

pub returns-in-Err-clause-settled : goal.returns-in-Err-clause-settled
returns-in-Err-clause-settled c =
    rw c.no_room.ensures (settling_over c.loop-r.invariant.settling c.requires.grouped.some _ c.in-Err.ensures.round)

pub loop-r-preserved : goal.loop-r-preserved
loop-r-preserved c =
    let ok = c.requires.grouped in
    record {
      same_reference = c.one_round.ensures.same_reference ∙ c.loop-r.invariant.same_reference;
      settling = settling_next c.loop-r.invariant.settling ok.some ok.size (rw c.in-Ok-Splits.field-0-is at c.in-Ok-Splits.ensures.round);
    }

pub returns-clause-settled : goal.returns-clause-settled
returns-clause-settled c =
    let ok = c.requires.grouped in
    settling_past c.loop-r.invariant.settling ok.some ok.size (omega (arith, c.loop-r-test.false)) _
