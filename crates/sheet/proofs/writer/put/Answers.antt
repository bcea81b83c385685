-- Bytes are copied to an offset. Assumes nothing.
use Rattle.sheet.proofs.Puts.{put_copied}
use Rattle.sheet.proofs.writer.put.Goals as goal

pub returns : goal.returns
returns c = put_copied c.args.res.now c.args.at c.args.bytes.now c.copy_from_slice.new.self c.copy_from_slice.ensures.after c.requires
