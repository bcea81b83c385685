-- The first u that has v's class number, below v or v itself. Assumes nothing.
use Rattle.std.proofs.Common.{rules, refl, ℕ, get_or, arith}
use borrow.Author.Tests.{tests, eq-eqb}
use lib.Dec.{eqb}
use Rattle.std.proofs.lemmas.Iterator.{YieldsList-from_range}
use Rattle.std.proofs.lemmas.Iterator.Search.{find_from_yields_List}
use Rattle.meaning.specs.Joint.{class, first}
use Rattle.groups.proofs.Least.{found_below}
use Rattle.groups.proofs.first_of.Goals as goal

pub returns : goal.returns
unfolding first class
returns c =
    let test = λ (u : ℕ). eqb (get_or c.args.g.now u 0) (get_or c.args.g.now c.args.v 0) in
    rw c.unwrap_or.ensures
    (found_below _ _ test c.find.result c.requires (eq-eqb _ _ refl)
    (find_from_yields_List test _ _ c.find.result c.find.ensures.ran (YieldsList-from_range 0 c.args.v c.args.v refl (omega arith)) (λ x b q k. search (rules, tests))))
