-- The start list, worked from an emptied table. Assumes nothing.
use Rattle.work.proofs.StartList.{start_asks, start_ready, start_says}
use Rattle.work.proofs.start_list.Goals as goal

pub put_both-requires : goal.put_both-requires
put_both-requires c =
    let clean = c.clear.ensures in
    start_asks _ _ _ c.args.table.now.head _ clean.words clean.head.0 clean.head.1 c.args.ids.now c.requires.alike c.requires.sized

pub returns-clause-list : goal.returns-clause-list
returns-clause-list c =
    let clean = c.clear.ensures in start_says _ _ _ c.args.table.now.head _ clean.words clean.head.0 clean.head.1 _ _ _ _ _ c.put_both.ensures.both

pub returns-clause-ready : goal.returns-clause-ready
returns-clause-ready c =
    let clean = c.clear.ensures in start_ready _ _ _ c.args.table.now.head _ clean.words clean.head.0 clean.head.1 _ _ _ _ _ c.put_both.ensures.both
