-- The operation on each id gives its product. Assumes nothing.
use Rattle.std.proofs.Common.{rules}
use Rattle.fill.specs.Trees.{products}
use Rattle.fill.proofs.Each.{times_asks, times_is}
use Rattle.fill.proofs.put_times.Goals as goal

pub put_each-requires-clause-takes : goal.put_each-requires-clause-takes
put_each-requires-clause-takes c = record { at = λ v l p ready keeps. let asks = times_asks ready keeps l c.requires in search rules }

pub put_each-requires-clause-puts : goal.put_each-requires-clause-puts
put_each-requires-clause-puts c = (
  products c.args.table.now.words.now c.args.table.now.head.used c.args.q c.args.h.now,
  record { at = λ v l p q r ready keeps post. let is = times_is keeps l c.requires in search rules },
)

pub returns-clause-says : goal.returns-clause-says
returns-clause-says c =
    c.put_each.ensures.says _ (record { at = λ v l p q r ready keeps post. let is = times_is keeps l c.requires in search rules })
