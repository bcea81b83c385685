-- END, at each return. Assumes nothing.
use borrow.Author.Tests.{eqb-true, eqb-false}
use Rattle.sheet.proofs.Dangling.{walk_start, walk_more}
use Rattle.sheet.proofs.Ending.{ended_after, ended_none, ended_dangling, ended_good}
use Rattle.sheet.proofs.reader.Part.ended.Goals as goal

pub returns-then-after-length : goal.returns-then-after-length
returns-then-after-length c = ended_after c.args.self c.args.at c.args.length c.if-after-length.true

pub returns-then-is_empty : goal.returns-then-is_empty
returns-then-is_empty c =
    ended_none c.args.self c.args.at c.args.length c.if-after-length.false (eqb-true _ _ (rw c.is_empty.ensures at c.if-is_empty.true))

pub loop-name-init : goal.loop-name-init
loop-name-init c = walk_start

pub returns-then-len-from : goal.returns-then-len-from
returns-then-len-from c =
    let is = c.deref-name-items.ensures.0 in
    rw is (
    ended_dangling c.args.self c.args.at c.args.length c.if-after-length.false (eqb-false _ _ (rw c.is_empty.ensures at c.if-is_empty.false))
    c.loop-name.invariant (rw is at c.loop-name-test.true) (rw (c.len.ensures.value, c.from.ensures, is) at c.if-len-from.true)
    )

pub loop-name-preserved : goal.loop-name-preserved
loop-name-preserved c =
    let is = c.deref-name-items.ensures.0 in
    walk_more c.loop-name.invariant (rw is at c.loop-name-test.true) (rw (c.from.ensures, c.len.ensures.value, is) at c.if-len-from.false)

pub returns : goal.returns
returns c =
    ended_good c.args.self c.args.at c.args.length c.if-after-length.false (eqb-false _ _ (rw c.is_empty.ensures at c.if-is_empty.false))
    c.loop-name.invariant c.requires.0 (rw c.deref-name-items.ensures.0 at c.loop-name-test.false)
