-- The signals are put one after the other, and then the outputs. Assumes nothing.
use Rattle.meaning.specs.Sheet as paper
use Rattle.sheet.specs.Stored.{sheet_of}
use Rattle.sheet.proofs.Puts.{Puts}
use Rattle.sheet.proofs.writer.put_sheet.Given as goal

abbrev pub invariant-loop-x : goal.invariant-loop-x
invariant-loop-x l = Puts paper.bytes_of_signal (sheet_of l.s).signals l.initial.res 0 l.x-index l.res l.at

abbrev pub invariant-loop-o : goal.invariant-loop-o
invariant-loop-o l = Puts paper.bytes_of_output (sheet_of l.s).outputs l.initial.res l.initial.at l.o-index l.res l.at
