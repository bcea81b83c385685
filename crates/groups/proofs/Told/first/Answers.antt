-- The first u that goes with v, below v or v itself. Assumes nothing.
use Rattle.std.proofs.Common.{rules, ℕ, refl, arith}
use borrow.Author.Tests.{tests}
use Rattle.std.proofs.lemmas.Iterator.{YieldsList-from_range}
use Rattle.std.proofs.lemmas.Iterator.Search.{find_from_yields_List}
use Rattle.groups.specs.ByIds.{same_by, first_by}
use Rattle.groups.proofs.Least.{found_below}
use Rattle.groups.proofs.Same.{same_equivalence}
use Rattle.groups.proofs.Told.first.Goals as goal

pub returns : goal.returns
unfolding first_by
returns c =
    let test = λ (u : ℕ). same_by c.args.self.now.g.now c.args.self.now.ids.now u c.args.v in
    rw c.unwrap_or.ensures
    (found_below _ _ test c.find.result (omega arith) ((same_equivalence _ _).itself _)
    (find_from_yields_List test _ _ c.find.result c.find.ensures.ran (YieldsList-from_range 0 c.args.v c.args.v refl (omega arith)) (λ x b q k. search (rules, tests))))
