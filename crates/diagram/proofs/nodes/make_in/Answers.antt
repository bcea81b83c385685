-- `nodes::make_in`: equal branches, a node that is found, a full table, a node that is added. Assumes nothing.
use native.Mathlib.Omega.{arith}
use Rattle.diagram.specs.Table.{Sought}
use Rattle.diagram.specs.Contract.{Says}
use Rattle.diagram.proofs.Making.{make_same, make_found, make_full, make_added}
use Rattle.diagram.proofs.nodes.make_in.Goals as goal

pub returns-then-x : goal.returns-then-x
unfolding Says
returns-then-x c =
    make_same _ _ _ _ _ c.requires.0 c.if-x.true

pub returns-then-n-eq0 : goal.returns-then-n-eq0
unfolding Says
returns-then-n-eq0 c =
    let fits = c.requires.0.ready.good.fits in
    let room = c.requires.1 in
    let none = c.if-n-eq0.true in
    make_full _ _ _ _ _ c.requires.0 c.if-x.false (λ i li p q r. omega (arith, fits, room, none, li)) (omega (arith, fits, room, none))

pub returns-in-Some : goal.returns-in-Some
unfolding Says Sought
returns-in-Some c =
    let f = c.in-Some.ensures in
    make_found _ _ _ _ _ c.requires.0 c.if-x.false _ f.0 f.1

pub returns-then-n-used : goal.returns-then-n-used
unfolding Says Sought
returns-then-n-used c =
    make_full _ _ _ _ _ c.requires.0 c.if-x.false c.in_default.ensures (omega (arith, c.requires.0.ready.good.fits, c.requires.1, c.if-n-used.true))

pub returns : goal.returns
unfolding Says Sought
returns c =
    rw c.add.ensures
    (make_added _ _ _ _ _ c.requires.0 c.if-x.false c.in_default.ensures (omega (arith, c.requires.1, c.if-n-used.false))
    c.counted.result c.counted.ensures.0 c.counted.ensures.1)
