-- What the files say, and the table zeroed. Assumes nothing.
use Rattle.yellopard.proofs.Calling.{refined}
use Rattle.yellopard.proofs.refine.Goals as goal

pub returns : goal.returns
returns c = refined c.refine_files-answer.ensures c.clear.ensures
