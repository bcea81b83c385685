use Rattle.std.proofs.Common.{◌≡◌, ◌-◌, ◌&&◌, true, false, ℕ, eqb, sym, ◌∙◌, arith, rules}
use Rattle.std.proofs.lemmas.Bool.Decides.{nat_tests}
use Rattle.diagram.specs.Words.{HEIGHT, LOW, HIGH, at}
use Rattle.diagram.proofs.Chain.{walk_next, walk_found, walk_none}
use Rattle.diagram.proofs.nodes.find.Goals as goal

-- what the comparison of two nodes says of their three words
same_words : (a b c x y z : ℕ) → true ≡ (eqb a x && (eqb b y && eqb c z)) → (a ≡ x) × (b ≡ y) × (c ≡ z)
same_words a b c x y z e = (grind (arith, nat_tests), grind (arith, nat_tests), grind (arith, nat_tests))

other_words : (a b c x y z : ℕ) → false ≡ (eqb a x && (eqb b y && eqb c z)) → a ≡ x → b ≡ y → c ≡ z → ⊥
other_words a b c x y z e p q r = grind (arith, nat_tests)

pub returns-then-eq : goal.returns-then-eq
returns-then-eq c =
    let m = c.read.ensures.words in
    let same = same_words c.read.result.height c.read.result.low c.read.result.high c.args.x.height c.args.x.low c.args.x.high c.if-eq.ensures in
    walk_found _ _ _ _ _ c.requires.0 _ c.loop-p.invariant c.loop-p-test.true (sym m.0 ∙ same.0) (sym m.1 ∙ same.1) (sym m.2 ∙ same.2)

pub loop-p-preserved : goal.loop-p-preserved
loop-p-preserved c =
    let m = c.read.ensures.words in
    let other : at c.args.t.now (c.loop-p.p - 2) HEIGHT ≡ c.args.x.height → at c.args.t.now (c.loop-p.p - 2) LOW ≡ c.args.x.low
    → at c.args.t.now (c.loop-p.p - 2) HIGH ≡ c.args.x.high → ⊥ =
    λ p q r. other_words c.read.result.height c.read.result.low c.read.result.high _ _ _ c.if-eq.ensures (m.0 ∙ p) (m.1 ∙ q) (m.2 ∙ r) in
    walk_next _ _ _ _ _ c.requires.0 _ c.loop-p.invariant _ c.loop-p-test.true other c.word-p-in-loop-p.ensures.0

pub returns : goal.returns
returns c = walk_none _ _ _ _ _ c.requires.0 _ c.loop-p.invariant (search rules)
