-- A pass over a sheet, signal by signal. Assumes nothing.
use Rattle.std.proofs.Common.{rules, ◌+◌, ◌<◌, length, refl, arith}
use Rattle.std.proofs.lemmas.Result.{err_from_is_err_and}
use Rattle.fill.specs.Work.{Fills}
use Rattle.work.specs.Passes.{SheetAsks, SheetSays}
use Rattle.work.proofs.Passing.{passing_none, passing_end, passing_asks, passing_place, passing_past, passing_small, passing_next, passing_full}
use Rattle.work.proofs.pass.put_sheet.Goals as goal
use Rattle.work.proofs.pass.put_sheet.Goals.{In_ok-id}

pub loop-v-init : goal.loop-v-init
loop-v-init c = record { same_reference = refl; passing = λ A B d k. passing_none _ k }

pub offset_bounds-x-items-v : goal.offset_bounds-x-items-v
offset_bounds-x-items-v c =
    omega (arith, c.deref-x-items.ensures.1, c.loop-v-test.true)

pub put_signal-requires : goal.put_signal-requires
unfolding SheetAsks
put_signal-requires c =
    let k = c.requires.3 in
    let is = c.deref-x-items.ensures.0 in
    rw is (passing_asks _ k (c.loop-v.invariant.passing _ _ _ k) (rw is at c.loop-v-test.true))

pub returns-in_err-id-clause-sheet : goal.returns-in_err-id-clause-sheet
unfolding SheetSays
returns-in_err-id-clause-sheet c =
    let p = err_from_is_err_and c.from_residual.result c.from_residual.ensures.1 in
    let is = c.deref-x-items.ensures.0 in
    λ A B d k. rw (p.1, p.2) (passing_full _ k (c.loop-v.invariant.passing A B d k) (rw is at c.loop-v-test.true) _ _ _ (rw is at c.in_err-id.ensures.signal) _)

-- the signal's id has a place
place : (c : In_ok-id) → c.args.p.before + c.loop-v.v < length c.loop-v.ids
unfolding SheetAsks
place c =
    let k = c.requires.3 in
    passing_place _ k (c.loop-v.invariant.passing _ _ _ k) (rw c.deref-x-items.ensures.0 at c.loop-v-test.true)

pub overflow_add-ids : goal.overflow_add-ids
overflow_add-ids c = omega (arith, place (goal.at.overflow_add-ids c).In_ok-id)

pub overflow_cast-ids : goal.overflow_cast-ids
unfolding SheetAsks
overflow_cast-ids c =
    let k = c.requires.3 in
    let is = c.deref-x-items.ensures.0 in
    let small = passing_small _ k (c.loop-v.invariant.passing _ _ _ k) (rw is at c.loop-v-test.true) _ _ _ (rw is at c.in_ok-id.ensures.signal) in
    omega (arith, small)

pub offset_bounds-ids-p : goal.offset_bounds-ids-p
offset_bounds-ids-p c = omega (arith, place (goal.at.offset_bounds-ids-p c).In_ok-id)

pub bounds-ids-p : goal.bounds-ids-p
bounds-ids-p c = omega (arith, place (goal.at.bounds-ids-p c).In_ok-id)

pub past-here-requires : goal.past-here-requires
unfolding SheetAsks
past-here-requires c =
    let k = c.requires.3 in
    let is = c.deref-x-items.ensures.0 in
    rw is (passing_past _ k (c.loop-v.invariant.passing _ _ _ k) (rw is at c.loop-v-test.true))

pub loop-v-preserved : goal.loop-v-preserved
loop-v-preserved c = record {
  same_reference = search rules;
  passing = λ A B d k.
      let is = c.deref-x-items.ensures.0 in
      passing_next _ k (c.loop-v.invariant.passing A B d k) (rw is at c.loop-v-test.true) _ _ _ (rw is at c.in_ok-id.ensures.signal) _ _ (rw is at c.past-here.ensures) refl;
}

pub returns-clause-sheet : goal.returns-clause-sheet
unfolding SheetSays Fills
returns-clause-sheet c =
    λ A B d k. passing_end _ k (c.loop-v.invariant.passing A B d k) (rw c.deref-x-items.ensures.0 at c.loop-v-test.false)
