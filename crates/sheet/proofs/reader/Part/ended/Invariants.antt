-- The records before name signals of the sheet. Assumes nothing.
use Rattle.sheet.proofs.Dangling.{Walk}
use Rattle.sheet.proofs.reader.Part.ended.Given as goal

abbrev pub invariant-loop-name : goal.invariant-loop-name
invariant-loop-name l = Walk l.fn.self l.name-index
