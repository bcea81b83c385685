-- The file is read as the paper says, turn by turn. Assumes nothing.
use Prim.Native.Nat.{◌-◌}
use lib.ListN.{length}
use Rattle.sheet.proofs.Turns.{Turn}
use Rattle.sheet.proofs.reader.read_sheet.Given as goal

abbrev pub invariant-loop-at : goal.invariant-loop-at
invariant-loop-at l = Turn l.file l.part l.at

abbrev pub decreases-loop-at : goal.decreases-loop-at
decreases-loop-at l = length l.file - l.at
