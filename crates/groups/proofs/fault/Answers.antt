-- The first signal that differs, by a search of them all. Assumes nothing.
use Rattle.std.proofs.Common.{rules, ℕ, not, get_or, refl, arith}
use borrow.Author.Tests.{tests}
use lib.Dec.{eqb}
use Rattle.std.proofs.lemmas.Iterator.{YieldsList-from_range}
use Rattle.std.proofs.lemmas.Iterator.Search.{find_from_yields_List}
use Rattle.meaning.specs.Joint.{first}
use Rattle.groups.specs.ByIds.{differs, fault_by}
use Rattle.groups.proofs.Least.{found_least}
use Rattle.groups.proofs.fault.Goals as goal

pub returns : goal.returns
unfolding fault_by differs
returns c =
    let g = c.args.g.now in
    let ids = c.args.ids.now in
    let test = λ (v : ℕ). not (eqb (get_or ids (first g v) 0) (get_or ids v 0)) in
    found_least _ test c.find.result
    (find_from_yields_List test _ _ c.find.result c.find.ensures.ran (YieldsList-from_range 0 _ _ refl (omega arith)) (λ x b q k. search (rules, tests)))
