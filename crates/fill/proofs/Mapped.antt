-- A loop that makes one tree after another and puts their ids into an array. Assumes nothing.
use mathlib.Core.Path.{◌≡◌, subst}
use mathlib.Core.List.{List}
use Prim.Native.Nat.{ℕ, ◌+◌, ◌<◌, ◌≤◌}
use native.Mathlib.Omega.{arith}
use lib.ListN.{length, set}
use Rattle.tree.specs.Tree.{Tree}
use Rattle.diagram.specs.declared.Head.{Head}
use Rattle.diagram.specs.Contract.{Has, Lacks, Ready}
use Rattle.diagram.proofs.Stores.{room_small}
use Rattle.fill.specs.Work.{Misses, Filled}
use Rattle.fill.specs.Trees.{map_trees}
use Rattle.fill.proofs.Gains.{misses_one, misses_after, misses_wider}
use Rattle.fill.proofs.Filled.{filled_none, filled_more}
use Rattle.fill.proofs.MapTrees.{length-map, map_more, map_upto}

-- the id of a tree fits a word
pub mapped_small : {w : List ℕ} {a : Head} {t : Tree} {u : List ℕ} {b : Head} {x : ℕ} → Has w a t u b x → x < 65536
mapped_small {u} h = omega (arith, h.id, h.grown.good.fits, room_small u)

-- after v of count trees: the ids of these stand in the array from off on
pub record Mapped (w : List ℕ) (a : Head) (t : ℕ → Tree) (old : List ℕ) (off count : ℕ) (u : List ℕ) (b : Head) (ids : List ℕ) (v : ℕ) : Type 0 where
  pub within : v ≤ count
  pub filled : Filled w a (map_trees t v) old off u b ids

pub mapped_none : (w : List ℕ) (a : Head) (t : ℕ → Tree) (old : List ℕ) (off count : ℕ) → Ready w a → Mapped w a t old off count w a old 0
unfolding map_trees
mapped_none w a t old off count k = record {
  within = omega arith;
  filled = filled_none w a old off k;
}

module _ {w : List ℕ} {a : Head} {t : ℕ → Tree} {old : List ℕ} {off count : ℕ} {u : List ℕ} {b : Head} {ids : List ℕ} {v : ℕ} (so : Mapped w a t old off count u b ids v) where
  pub mapped_end : count ≤ v → Filled w a (map_trees t count) old off u b ids
  mapped_end l =
      let e : v ≡ count = omega (arith, so.within) in
      subst (λ (k : ℕ). Filled w a (map_trees t k) old off u b ids) e so.filled

  -- the next tree is made, and its id put in place; or the table is full
  module _ (l : v < count) {u' : List ℕ} {c : Head} where
    pub mapped_next : {x at : ℕ} {ids' : List ℕ} → Has u b (t v) u' c x → at ≡ off + v → at < length old → ids' ≡ set ids at x
        → Mapped w a t old off count u' c ids' (v + 1)
    mapped_next {at} has ea la ei =
        let place : at ≡ off + length (map_trees t v) = omega (arith, length-map t v) in
        record {
          within = omega arith;
          filled = rw (map_more t v, ei) (filled_more place (omega (arith, so.filled.frame.size)) so.filled has);
        }

    pub mapped_misses : Lacks u b (t v) u' c → Misses w a (map_trees t count) u' c
    mapped_misses lacks =
        let m : Misses w a (map_trees t (v + 1)) u' c = rw (map_more t v) (misses_after so.filled.gains (misses_one lacks)) in
        misses_wider _ (λ s p. map_upto t (v + 1) count (omega arith) p) m
