-- f of the joint list at a moment, and the same normalised. Assumes nothing.
use Rattle.std.specs.Prelude.{if◌then◌else◌, Result, Ok, Err}
use mathlib.Core.Path.{◌≡◌, refl, sym, ap, ap₂, subst, ◌∙◌}
use mathlib.Core.Bool.{Bool, true, false}
use mathlib.Core.List.{List, ◌++◌}
use Prim.Native.Nat.{ℕ, ◌*◌, ◌<◌, ◌≤◌}
use native.Mathlib.Omega.{arith}
use lib.Dec.{eqb}
use lib.ListN.{length, take}
use lib.Seq.{length-take-le, get_or-take}
use Rattle.meaning.specs.Numbers.{max_signals}
use Rattle.meaning.specs.Basic.{bit}
use Rattle.meaning.specs.Sheet as paper
use Rattle.meaning.specs.Joint.{total, variables, polarity}
use Rattle.tree.specs.Tree.{Tree}
use Rattle.tree.proofs.Function.{for_height, for_same}
use Rattle.lists.specs.Lists as lists
use Rattle.lists.proofs.Trees.{h_from_f}
use Rattle.diagram.specs.declared.Full.{Full}
use Rattle.diagram.specs.declared.Head.{Head}
use Rattle.fill.specs.Work.{Filled, Fills}
use Rattle.fill.specs.Trees.{map_trees, trees_at, tree_of_normal, byte_normals}
use Rattle.fill.specs.Contract.{ByteNormalsAsks, ByteNormalsSays}
use Rattle.fill.proofs.Parts.{part_left}
use Rattle.fill.proofs.Gains.{gains_ready, gains_after, misses_after, misses_wider, stand_kept}
use Rattle.fill.proofs.MapTrees.{stand_at, stand_known, map_same}
use Rattle.fill.proofs.Each.{normal_for}
use Rattle.work.specs.declared.Pair.{Pair}
use Rattle.work.specs.declared.pass.Moment.{Moment}
use Rattle.work.specs.Lists.{left, right, joint}
use Rattle.work.specs.Passes.{moment_of, f_tree, h_tree}
use Rattle.work.specs.Stages.{f_trees, h_trees, both_trees, Held, ListFills, BothAsks, Both, BothSays}
use Rattle.work.proofs.Held.{held_map, held_append}
use Rattle.work.proofs.Joining.{joint_few}

-- h is f itself where the polarity says plain, and complemented where it says flipped
normal_tree : (A B : paper.Sheet) (m : lists.Moment) (v : ℕ) → v < total A B → tree_of_normal (bit (polarity A B) v) (f_tree A B m v) ≡ h_tree A B m v
normal_tree A B m v l =
    normal_for _ (variables A B) (lists.f_at A B m v)
    ∙ for_same (variables A B) _ _ (λ e _. sym (h_from_f A B m v l e))

-- the byte of a polarity is 1 exactly where it is plain
byte_plain : (b : Bool) → eqb (if b then 1 else 0) 1 ≡ b
byte_plain true = refl
byte_plain false = refl

-- k is the number of f, and lv that of the variable levels
module _ {p : Pair} {t : Moment} {w : List ℕ} {a : Head} (f h : List ℕ) (asks : BothAsks p t w a (length f) (length h))
    (u : List ℕ) (b : Head) (fs : List ℕ) where
  abbrev F : List Tree
  F = f_trees (left p) (right p) (moment_of t)

  abbrev H : List Tree
  H = h_trees (left p) (right p) (moment_of t)

  pub both_over : (full : Full) → Fills w a F f 0 u b fs (Err full) → (any : List ℕ) → BothSays p t w a u b fs any (Err full)
  unfolding Fills BothSays both_trees
  both_over full says any = misses_wider (F ++ H) (λ s q. part_left H q) says.0

  module _ (says : Fills w a F f 0 u b fs (Ok tt)) {k : ℕ} (whole : k ≡ length fs) where
    filled : Filled w a F f 0 u b fs
    unfolding Fills
    filled = says

    size_f : length fs ≡ joint p
    size_f = filled.frame.size ∙ asks.f_asks.sized

    abbrev plain : List ℕ
    plain = take k p.plain

    -- each signal has its polarity
    pub plain_few : k ≤ 2 * max_signals
    plain_few = omega (arith, whole, size_f, joint_few p asks.f_asks.alike)

    plain_sized : k ≡ length plain
    plain_sized = sym (length-take-le k p.plain (omega (arith, plain_few, asks.f_asks.alike.size)))

    pub normals_asks : {lv : ℕ} → lv ≡ variables (left p) (right p) → ByteNormalsAsks u b plain fs (length h) lv
    unfolding joint
    normals_asks counted = record {
      ready = gains_ready filled.gains;
      known =
          rw counted
          (stand_known (f_tree (left p) (right p) (moment_of t)) (total (left p) (right p)) (variables (left p) (right p)) size_f (λ v l. for_height (variables (left p) (right p)) _) filled.stand);
      flags = sym plain_sized ∙ whole;
      sized = asks.h_sized ∙ sym size_f;
    }

    normals_are : (v : ℕ) → v < joint p → byte_normals u b.used plain fs v ≡ h_tree (left p) (right p) (moment_of t) v
    unfolding byte_normals trees_at joint
    normals_are v l =
        let i = stand_at (f_tree (left p) (right p) (moment_of t)) (total (left p) (right p)) v v l (omega arith) filled.stand in
        let byte = get_or-take k p.plain v 0 (omega (arith, whole, size_f)) ∙ asks.f_asks.alike.plain v l in
        ap₂ tree_of_normal (ap (λ (x : ℕ). eqb x 1) byte ∙ byte_plain _) i.is
        ∙ normal_tree (left p) (right p) (moment_of t) v l

    all_normal : map_trees (byte_normals u b.used plain fs) (length fs) ≡ H
    unfolding joint
    all_normal = ap (map_trees (byte_normals u b.used plain fs)) size_f ∙ map_same _ _ (joint p) normals_are

    both_by : (u' : List ℕ) (c : Head) (hs : List ℕ) (z : Result (Unit {0}) Full) → Fills u b H h 0 u' c hs z → BothSays p t w a u' c fs hs z
    unfolding Fills BothSays both_trees
    both_by u' c hs (Ok done) k = record {
      gains = gains_after filled.gains k.gains;
      f_stand = stand_kept k.gains.keeps filled.stand;
      h_stand = k.stand;
      f_size = size_f;
      h_size = k.frame.size ∙ asks.h_sized;
    }
    both_by u' c hs (Err full) k = misses_after filled.gains k.0

    pub both_says : (u' : List ℕ) (c : Head) (hs : List ℕ) (z : Result (Unit {0}) Full) → ByteNormalsSays u b plain fs h u' c hs z → BothSays p t w a u' c fs hs z
    both_says u' c hs z k = both_by u' c hs z (subst (λ (ts : List Tree). Fills u b ts h 0 u' c hs z) all_normal k)

-- ## What has been worked

-- every part of f and h has an id
pub both_held : {p : Pair} {t : Moment} {w : List ℕ} {a : Head} {u : List ℕ} {b : Head} {fs hs : List ℕ} → Both p t w a u b fs hs → Held u b.used (both_trees (left p) (right p) (moment_of t))
unfolding both_trees
both_held {p} {t} k =
    held_append
    (held_map (f_tree (left p) (right p) (moment_of t)) (total (left p) (right p)) k.gains.good k.f_stand)
    (held_map (h_tree (left p) (right p) (moment_of t)) (total (left p) (right p)) k.gains.good k.h_stand)

-- so it is a list that is worked
pub both_list : (p : Pair) (t : Moment) (w : List ℕ) (a : Head) (u : List ℕ) (b : Head) (fs hs : List ℕ) (z : Result (Unit {0}) Full) → BothSays p t w a u b fs hs z
    → ListFills w a (both_trees (left p) (right p) (moment_of t)) (h_tree (left p) (right p) (moment_of t)) (joint p) u b hs z
unfolding BothSays ListFills joint
both_list p t w a u b fs hs (Ok done) k = record { gains = k.gains; held = both_held k; stand = k.h_stand; size = k.h_size }
both_list p t w a u b fs hs (Err full) m = m
