-- The operation on each id gives its h. Assumes nothing.
use Rattle.std.proofs.Common.{rules}
use Rattle.fill.specs.Trees.{byte_normals}
use Rattle.fill.proofs.Each.{byte_normal_asks, byte_normal_is}
use Rattle.fill.proofs.put_byte_normals.Goals as goal

pub put_each-requires-clause-takes : goal.put_each-requires-clause-takes
put_each-requires-clause-takes c = record { at = λ v l p ready keeps. let asks = byte_normal_asks ready keeps l c.requires in let bound = c.requires.flags in search rules }

pub put_each-requires-clause-puts : goal.put_each-requires-clause-puts
put_each-requires-clause-puts c = (
  byte_normals c.args.table.now.words.now c.args.table.now.head.used c.args.plain.now c.args.f.now,
  record { at = λ v l p q r ready keeps post. let is = byte_normal_is keeps l c.requires in search rules },
)

pub returns-clause-says : goal.returns-clause-says
returns-clause-says c =
    c.put_each.ensures.says _ (record { at = λ v l p q r ready keeps post. let is = byte_normal_is keeps l c.requires in search rules })
