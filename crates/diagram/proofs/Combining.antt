-- The steps of combining two diagrams, one law for each. Assumes nothing.
use mathlib.Core.Path.{◌≡◌, ◌∙◌}
use mathlib.Core.Bool.{Bool, true, false}
use mathlib.Core.List.{List}
use Prim.Native.Nat.{ℕ, ◌+◌, ◌-◌, ◌<◌, ◌≤◌}
use native.Mathlib.Omega.{arith}
use Rattle.std.specs.Prelude.{Some, Result}
use Rattle.tree.specs.Tree.{Tree, glue, height, branch, complement_tree}
use Rattle.tree.proofs.Glue.{sub_low, sub_high}
use Rattle.tree.proofs.Combine.{combine_step, combine_height, branch-height}
use Rattle.diagram.specs.declared.Full.{Full}
use Rattle.diagram.specs.declared.Head.{Head}
use Rattle.diagram.specs.declared.Made.{Made}
use Rattle.diagram.specs.declared.Op.{Op}
use Rattle.diagram.specs.declared.Op.TheVariants.{Equal}
use Rattle.diagram.specs.declared.Sides.{Sides}
use Rattle.diagram.specs.Operation.{op_of}
use Rattle.diagram.specs.Table.{tree_at, glued, combined, Means}
use Rattle.diagram.specs.Contract.{Grown, Has, Lacks, Says, Ready, MakeAsks, CombineAsks, ComplementAsks, Early, Open, Splits}
use Rattle.diagram.proofs.Trees.{tree-constant, height-constant}
use Rattle.diagram.proofs.Early.{levels_left}
use Rattle.diagram.proofs.Grown.{tally_after, grown_wider, grown_after, has_there, has_ready, lacks_wider, lacks_after, says_after}

-- ## Known results

pub known_has : (w : List ℕ) (a : Head) (op : Op) (x y r : ℕ) → Ready w a → Means w a.used (op_of op) x y r → Has w a (combined w a.used (op_of op) x y) w a r
known_has w a op x y r k m = has_there w a _ r k m.id m.is

pub early_has : (w : List ℕ) (a : Head) (op : Op) (x y left r : ℕ) → CombineAsks w a x y left → Early (op_of op) x y (Some r) → Has w a (combined w a.used (op_of op) x y) w a r
unfolding Early
early_has w a op x y left r ask e = known_has w a op x y r ask.ready (e w a.used ask.ready.good ask.first.id ask.second.id)

module _ (w : List ℕ) (a : Head) (op : Op) (x y left : ℕ) (s : Sides) (ask : CombineAsks w a x y left) (none : Open x y) (sides : Splits w a.used x y s) where
  -- an operand is no constant, so there are levels
  some : 0 < s.top
  some =
      let g = ask.ready.good in
      omega (arith, sides.top, levels_left w a.used x y g ask.first.id ask.second.id none)

  -- the results on the two branches
  low_tree : Tree
  low_tree = combined w a.used (op_of op) s.a.low s.b.low

  high_tree : Tree
  high_tree = combined w a.used (op_of op) s.a.high s.b.high

  result : combined w a.used (op_of op) x y ≡ glue s.top low_tree high_tree
  unfolding low_tree high_tree
  result =
      rw (sides.first.low_is, sides.second.low_is, sides.first.high_is, sides.second.high_is)
      (combine_step (op_of op) s.top _ _ sides.top some)

  -- ## Levels fall

  top_left : s.top ≤ left
  top_left = omega (arith, sides.top, ask.first.levels, ask.second.levels)

  pub some_left : 1 ≤ left
  some_left = omega (arith, some, top_left)

  branch_x : (b : Bool) → height (branch b s.top (tree_at w a.used x)) < s.top
  branch_x b = branch-height b s.top _ (ask.ready.good.reduced x ask.first.id) (omega (arith, sides.top)) some

  branch_y : (b : Bool) → height (branch b s.top (tree_at w a.used y)) < s.top
  branch_y b = branch-height b s.top _ (ask.ready.good.reduced y ask.second.id) (omega (arith, sides.top)) some

  low_x : height (tree_at w a.used s.a.low) < s.top
  low_x = rw sides.first.low_is (branch_x false)

  low_y : height (tree_at w a.used s.b.low) < s.top
  low_y = rw sides.second.low_is (branch_y false)

  high_x : height (tree_at w a.used s.a.high) < s.top
  high_x = rw sides.first.high_is (branch_x true)

  high_y : height (tree_at w a.used s.b.high) < s.top
  high_y = rw sides.second.high_is (branch_y true)

  below_top : (p q : ℕ) → p < a.used + 2 → q < a.used + 2 → height (tree_at w a.used p) < s.top → height (tree_at w a.used q) < s.top
      → height (combined w a.used (op_of op) p q) < s.top
  below_top p q lp lq hp hq =
      let h = combine_height (op_of op) (s.top - 1) _ _ (ask.ready.good.reduced p lp) (ask.ready.good.reduced q lq) (omega (arith, hp)) (omega (arith, hq)) in
      omega (arith, some, h)

  -- ## The low branches

  pub low_asks : CombineAsks w a s.a.low s.b.low (left - 1)
  low_asks = record {
    ready = ask.ready;
    first = record { id = sides.first.low_id; levels = omega (arith, low_x, top_left) };
    second = record { id = sides.second.low_id; levels = omega (arith, low_y, top_left) };
  }

  pub low_full : (u : List ℕ) (b : Head) → Lacks w a (combined w a.used (op_of op) s.a.low s.b.low) u b → Lacks w a (combined w a.used (op_of op) x y) u b
  unfolding low_tree
  low_full u b k = rw result (lacks_wider _ (λ t q. sub_low t s.top low_tree high_tree q) k)

  -- ## The high branches, after the low ones

  module _ (u : List ℕ) (b : Head) (l : ℕ) (hl : Has w a (combined w a.used (op_of op) s.a.low s.b.low) u b l) where
    same : (i : ℕ) → i < a.used + 2 → tree_at u b.used i ≡ tree_at w a.used i
    same = hl.grown.keeps.same

    more : a.used ≤ b.used
    more = hl.grown.keeps.more

    pub high_asks : CombineAsks u b s.a.high s.b.high (left - 1)
    high_asks = record {
      ready = has_ready hl;
      first = record { id = omega (arith, sides.first.high_id, more); levels = rw (same _ sides.first.high_id) (omega (arith, high_x, top_left)) };
      second = record { id = omega (arith, sides.second.high_id, more); levels = rw (same _ sides.second.high_id) (omega (arith, high_y, top_left)) };
    }

    high_same : combined u b.used (op_of op) s.a.high s.b.high ≡ high_tree
    unfolding high_tree
    high_same = rw (same _ sides.first.high_id, same _ sides.second.high_id)

    grown_low : Grown w a.used (glue s.top low_tree high_tree) u b.used
    unfolding low_tree
    grown_low = grown_wider _ (λ t q. sub_low t s.top low_tree high_tree q) hl.grown

    pub high_full : (u' : List ℕ) (c : Head) → Lacks u b (combined u b.used (op_of op) s.a.high s.b.high) u' c → Lacks w a (combined w a.used (op_of op) x y) u' c
    high_full u' c k =
        let k' : Lacks u b (glue s.top low_tree high_tree) u' c = lacks_wider _ (λ t q. sub_high t s.top low_tree high_tree q) (rw high_same at k) in
        rw result (lacks_after grown_low hl.tally k')

    -- ## The node over both

    module _ (u' : List ℕ) (c : Head) (h : ℕ) (hh : Has u b (combined u b.used (op_of op) s.a.high s.b.high) u' c h) where
      low_is : tree_at u' c.used l ≡ low_tree
      unfolding low_tree
      low_is = hh.grown.keeps.same l hl.id ∙ hl.is

      high_is : tree_at u' c.used h ≡ high_tree
      high_is = hh.is ∙ high_same

      pub make_asks : MakeAsks u' c s.top l h
      unfolding low_tree high_tree
      make_asks = record {
        ready = has_ready hh;
        tall = sides.small;
        low = omega (arith, hl.id, hh.grown.keeps.more);
        high = hh.id;
        lows = rw low_is (below_top _ _ sides.first.low_id sides.second.low_id low_x low_y);
        highs = rw high_is (below_top _ _ sides.first.high_id sides.second.high_id high_x high_y);
      }

      pub finished : (z : List ℕ) (r : Result Made Full) → Says u' c (glued u' c.used s.top l h) z r → Says w a (combined w a.used (op_of op) x y) z r
      finished z r q =
          let q' : Says u' c (glue s.top low_tree high_tree) z r = rw (low_is, high_is) at q in
          let g : Grown u b.used high_tree u' c.used = rw high_same at hh.grown in
          let g' : Grown w a.used (glue s.top low_tree high_tree) u' c.used = grown_after grown_low (grown_wider _ (λ t q. sub_high t s.top low_tree high_tree q) g) in
          rw result (says_after g' (tally_after a b c hh.grown.keeps.more hl.tally hh.tally) z r q')

-- ## The complement

pub complement_asks : (w : List ℕ) (a : Head) (x left : ℕ) → ComplementAsks w a x left → CombineAsks w a x 0 left
complement_asks w a x left k = record {
  ready = k.ready;
  first = k.operand;
  second = record { id = omega arith; levels = omega (arith, height-constant w a.used 0 (omega arith)) };
}

pub complement_is : (w : List ℕ) (n x : ℕ) → combined w n (op_of Equal) x 0 ≡ complement_tree (tree_at w n x)
unfolding complement_tree op_of
complement_is w n x = rw (tree-constant w n 0 (omega arith))
