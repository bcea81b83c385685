-- `words::clear` empties the table. Assumes nothing.
use Rattle.std.proofs.Common.{◌≤◌, ◌*◌, length, arith}
use Rattle.std.proofs.lemmas.List.{length-take-le}
use Rattle.meaning.specs.Room.{cleared}
use Rattle.diagram.proofs.words.clear.Goals as goal

pub returns : goal.returns
unfolding cleared
returns c =
    let fits : 10 * c.room-n.result ≤ length c.args.t.now = omega arith in
    rw (c.fill.ensures.after (λ y h. h), length-take-le _ _ fits, c.room-n.ensures.0)
