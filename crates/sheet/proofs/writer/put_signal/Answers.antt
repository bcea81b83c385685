-- A record of two or three bytes is put at an offset. Assumes nothing.
use Rattle.std.proofs.lemmas.List.{length-take}
use Rattle.sheet.specs.Writing.{bytes_of_record}
use Rattle.sheet.proofs.writer.put_signal.Goals as goal

pub put-requires : goal.put-requires
unfolding bytes_of_record
put-requires c =
    rw (c.body.ensures.value, length-take) (rw length-take at c.requires)

pub returns : goal.returns
unfolding bytes_of_record
returns c =
    rw (c.body.ensures.value, c.from.ensures) at c.put.ensures
