use Rattle.std.proofs.Common.{ℕ, arith}
use Rattle.std.proofs.lemmas.Result.{err_from_is_err_and}
use Rattle.diagram.specs.Operation.{op_of}
use Rattle.diagram.specs.Table.{combined}
use Rattle.diagram.specs.Contract.{Has, Says, Early, Recalled}
use Rattle.diagram.proofs.Codes.{code_small}
use Rattle.diagram.proofs.Early.{slot_asks}
use Rattle.diagram.proofs.Combining.{known_has, early_has, some_left, low_asks, low_full, high_asks, high_full, make_asks, finished}
use Rattle.diagram.proofs.Noting.{note_asks, has_noted}
use Rattle.diagram.proofs.+combine_from.Goals as goal
use Rattle.diagram.proofs.+combine_from.Goals.{After-early-2, After-make_in-arg-2-1, After-make_in, in-Some-early, in-None+in_ok-low-in-None, in-Some-early-2, in-None-early+in_ok-high-in-None-early}

-- the low branches have their node
low_has : (t : ℕ) (c : After-early-2 t) → Has c.args.t.now (record { used = c.args.used; most = c.args.most })
    (combined c.args.t.now c.args.used (op_of c.args.op) c.split-s.result.a.low c.split-s.result.b.low) c.match-early.t c.match-early.low.head c.match-early.low.id
unfolding Says
low_has t c = elim c.match-early.branch [
  | in-Some-early w ↦
      rw (w.t-is, w.low-is)
      (early_has _ _ c.args.op _ _ _ _ (low_asks _ _ c.args.op _ _ _ _ c.requires.0 c.requires.1 c.split-s.ensures) w.in-Some-early.ensures)
  | in-None+in_ok-low-in-None w ↦ rw (w.t-is, w.low-is) w.in_ok-low-in-None.ensures
]

-- and so do the high ones
high_has : (t : ℕ) (c : After-make_in-arg-2-1 t) → Has c.args.t.now (record { used = c.args.used; most = c.args.most })
    (combined c.args.t.now c.args.used (op_of c.args.op) c.split-s.result.a.low c.split-s.result.b.low) c.match-early.t c.match-early.low.head c.match-early.low.id
    → Has c.match-early.t c.match-early.low.head
    (combined c.match-early.t c.match-early.low.head.used (op_of c.args.op) c.split-s.result.a.high c.split-s.result.b.high)
    c.match-early-2.t c.match-early-2.high.head c.match-early-2.high.id
unfolding Says
high_has t c low = elim c.match-early-2.branch [
  | in-Some-early-2 w ↦
      rw (w.t-is, w.high-is)
      (early_has _ _ c.args.op _ _ _ _ (high_asks _ _ c.args.op _ _ _ _ c.requires.0 c.requires.1 c.split-s.ensures _ _ _ low) w.in-Some-early-2.ensures)
  | in-None-early+in_ok-high-in-None-early w ↦ rw (w.t-is, w.high-is) w.in_ok-high-in-None-early.ensures
]

-- so what the last node gives is the answer
made_is : (t : ℕ) (c : After-make_in t) → Has c.args.t.now (record { used = c.args.used; most = c.args.most })
    (combined c.args.t.now c.args.used (op_of c.args.op) c.split-s.result.a.low c.split-s.result.b.low) c.match-early.t c.match-early.low.head c.match-early.low.id
    → Says c.args.t.now (record { used = c.args.used; most = c.args.most }) (combined c.args.t.now c.args.used (op_of c.args.op) c.args.a c.args.b)
    c.make_in.new.t c.make_in.result
unfolding Says
made_is t c low =
    let high = high_has t (goal.at.After-make_in t c).After-make_in-arg-2-1 low in
    finished _ _ c.args.op _ _ _ _ c.requires.0 c.requires.1 c.split-s.ensures _ _ _ low _ _ _ high _ _ c.make_in.ensures

pub hashed-slot-requires : goal.hashed-slot-requires
hashed-slot-requires t c =
    let ask = c.requires.0 in
    slot_asks _ _ _ _ ask.ready.good ask.first.id ask.second.id c.requires.1 _ _ (omega (arith, c.from.ensures, code_small c.args.op)) c.requires.2

pub returns-in-Some : goal.returns-in-Some
unfolding Says Recalled
returns-in-Some t c = known_has _ _ c.args.op _ _ _ c.requires.0.ready c.in-Some.ensures

pub overflow_sub-left : goal.overflow_sub-left
overflow_sub-left t c = some_left _ _ c.args.op _ _ _ _ c.requires.0 c.requires.1 c.split-s.ensures

pub combine_from-requires : goal.combine_from-requires
unfolding Early
combine_from-requires t c =
    let some = some_left _ _ c.args.op _ _ _ _ c.requires.0 c.requires.1 c.split-s.ensures in
    (omega (arith, c.decreases), (low_asks _ _ c.args.op _ _ _ _ c.requires.0 c.requires.1 c.split-s.ensures, c.in-None.ensures, c.requires.2))

pub returns-in_err-low-in-None : goal.returns-in_err-low-in-None
unfolding Says
returns-in_err-low-in-None t c =
    let p = err_from_is_err_and c.from_residual.result c.from_residual.ensures.1 in
    rw (p.1, p.2) (low_full _ _ c.args.op _ _ _ _ c.requires.0 c.requires.1 c.split-s.ensures _ _ c.in_err-low-in-None.ensures)

pub overflow_sub-left-in-None-early : goal.overflow_sub-left-in-None-early
overflow_sub-left-in-None-early t c = some_left _ _ c.args.op _ _ _ _ c.requires.0 c.requires.1 c.split-s.ensures

pub combine_from-requires-in-None-early : goal.combine_from-requires-in-None-early
unfolding Early
combine_from-requires-in-None-early t c =
    let some = some_left _ _ c.args.op _ _ _ _ c.requires.0 c.requires.1 c.split-s.ensures in
    let low = low_has t (goal.at.combine_from-requires-in-None-early t c).After-early-2 in (
      omega (arith, c.decreases),
      (
        high_asks _ _ c.args.op _ _ _ _ c.requires.0 c.requires.1 c.split-s.ensures _ _ _ low,
        c.in-None-early.ensures,
        omega (arith, c.requires.2, low.grown.room),
      ),
    )

pub returns-in_err-high-in-None-early : goal.returns-in_err-high-in-None-early
unfolding Says
returns-in_err-high-in-None-early t c =
    let low = low_has t (goal.at.returns-in_err-high-in-None-early t c).After-early-2 in
    let p = err_from_is_err_and c.from_residual-in_err-high-in-None-early.result c.from_residual-in_err-high-in-None-early.ensures.1 in
    rw (p.1, p.2) (high_full _ _ c.args.op _ _ _ _ c.requires.0 c.requires.1 c.split-s.ensures _ _ _ low _ _ c.in_err-high-in-None-early.ensures)

pub make_in-requires : goal.make_in-requires
unfolding Says
make_in-requires t c =
    let place = goal.at.make_in-requires t c in
    let low = low_has t place.After-early-2 in
    let high = high_has t place.After-make_in-arg-2-1 low in (
      make_asks _ _ c.args.op _ _ _ _ c.requires.0 c.requires.1 c.split-s.ensures _ _ _ low _ _ _ high,
      omega (arith, c.requires.2, low.grown.room, high.grown.room),
    )

pub returns-in_err-made : goal.returns-in_err-made
unfolding Says
returns-in_err-made t c =
    let place = goal.at.returns-in_err-made t c in
    let p = err_from_is_err_and c.from_residual-in_err-made.result c.from_residual-in_err-made.ensures.1 in
    rw (p.1, p.2) (rw c.in_err-made.was at (made_is t place.After-make_in (low_has t place.After-early-2)))

pub note-requires : goal.note-requires
unfolding Says
note-requires t c =
    let place = goal.at.note-requires t c in
    let ask = c.requires.0 in
    note_asks _ _ c.args.op _ _ _ _ _ _ ask.ready ask.first.id ask.second.id (omega (arith, c.hashed-slot.ensures.1, c.requires.2))
    (rw c.in_ok-made.was at (made_is t place.After-make_in (low_has t place.After-early-2)))

pub returns : goal.returns
unfolding Says
returns t c =
    let place = goal.at.returns t c in
    let ask = c.requires.0 in
    rw c.note.ensures
    (has_noted _ _ c.args.op _ _ _ _ _ _ ask.ready ask.first.id ask.second.id (omega (arith, c.hashed-slot.ensures.1, c.requires.2))
    (rw c.in_ok-made.was at (made_is t place.After-make_in (low_has t place.After-early-2))))
