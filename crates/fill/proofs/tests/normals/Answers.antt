-- The table is empty, and then has the variable, which is each id of f. Assumes nothing.
use Rattle.std.proofs.Common.{◌≡◌, ℕ, zero, suc, ◌≤◌, ◌<◌, List, [], ◌∷◌, get_or, arith, rules, subst}
use Rattle.tree.specs.Tree.{height}
use Rattle.tree.proofs.Glue.{glue-height}
use Rattle.diagram.specs.Table.{glued}
use Rattle.diagram.specs.Contract.{Gives, Under}
use Rattle.diagram.proofs.Empty.{cleared_good}
use Rattle.diagram.proofs.Trees.{height-constant}
use Rattle.diagram.proofs.Grown.{has_ready}
use Rattle.fill.proofs.tests.normals.Goals as goal

-- a variable at height 1 has one level
variable_levels : (w : List ℕ) (n : ℕ) → height (glued w n 1 0 1) ≤ 1
variable_levels w n =
    glue-height 0 _ _ (omega (arith, height-constant w n 0 (omega arith))) (omega (arith, height-constant w n 1 (omega arith)))

each_under : {w : List ℕ} {n x : ℕ} → Under w n x 1 → x ≡ 2 → (v : ℕ) → v < 2 → Under w n (get_or (2 ∷ 2 ∷ []) v 0) 1
each_under {w} {n} u is zero l = subst (λ x. Under w n x 1) is u
each_under {w} {n} u is (suc zero) l = subst (λ x. Under w n x 1) is u
each_under u is (suc (suc v)) l = absurd (omega (arith, l))

pub make-requires : goal.make-requires
make-requires g c =
    let constant = height-constant c.clear.new.self.words.now c.clear.new.self.head.used in record {
      ready = record { good = rw (c.clear.ensures.words, c.clear.ensures.head.0) (cleared_good _); tallied = omega (arith, c.clear.ensures.head.0) };
      tall = omega arith;
      low = omega arith;
      high = omega arith;
      lows = omega (arith, constant 0 (omega arith));
      highs = omega (arith, constant 1 (omega arith));
    }

pub put_normals-requires : goal.put_normals-requires
unfolding Gives
put_normals-requires g c =
    let has = c.in_ok-x.ensures.gives in record {
      ready = has_ready has;
      known = record { each = each_under (record { id = has.id; levels = rw has.is (variable_levels _ _) }) (omega arith) };
      flags = search rules;
      sized = search rules;
    }
