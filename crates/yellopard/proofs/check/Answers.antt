-- What the files say, and the table zeroed. Assumes nothing.
use Rattle.yellopard.proofs.Calling.{checked}
use Rattle.yellopard.proofs.check.Goals as goal

pub returns : goal.returns
returns c = checked c.check_files-answer.ensures c.clear.ensures
