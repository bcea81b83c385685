-- The first output that is not paired, by a search of them all. Assumes nothing.
use Rattle.std.proofs.Common.{rules, ℕ, not, refl, arith}
use borrow.Author.Tests.{tests}
use Rattle.std.proofs.lemmas.Iterator.{YieldsList-from_range}
use Rattle.std.proofs.lemmas.Iterator.Search.{find_from_yields_List}
use Rattle.meaning.specs.Joint.{paired}
use Rattle.work.specs.Lists.{left, right}
use Rattle.correspond.proofs.Pairing.{fault_first}
use Rattle.correspond.proofs.unpaired.Goals as goal

pub returns : goal.returns
returns c =
    let test = λ (i : ℕ). not (paired (left c.args.p.now) (right c.args.p.now) c.args.g.now i) in
    fault_first c.requires _
    (find_from_yields_List test _ _ c.find.result c.find.ensures.ran (YieldsList-from_range 0 _ _ refl (omega arith)) (λ x b q k. search (rules, tests)))
