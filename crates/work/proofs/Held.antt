-- Lists of trees whose every part has an id, one after another. Assumes nothing.
use Rattle.std.specs.Prelude.{Result, Ok, Err}
use mathlib.Core.List.{List, ◌++◌}
use mathlib.Core.Logic.{⊎_elim}
use Prim.Native.Nat.{ℕ, suc, ◌<◌}
use native.Mathlib.Omega.{arith}
use Rattle.tree.specs.Tree.{Tree, whole}
use Rattle.diagram.specs.declared.Full.{Full}
use Rattle.diagram.specs.declared.Head.{Head}
use Rattle.diagram.specs.Table.{Good}
use Rattle.diagram.specs.Contract.{Keeps}
use Rattle.diagram.proofs.Counting.{parts_held}
use Rattle.fill.specs.Work.{PartOf, in_first, Gains, Stand}
use Rattle.fill.specs.Trees.{map_trees}
use Rattle.fill.proofs.Parts.{part_right, part_split}
use Rattle.fill.proofs.Gains.{gains_after, misses_after, is_kept}
use Rattle.fill.proofs.MapTrees.{part_map, map_upto, stand_at}
use Rattle.work.specs.Stages.{Held, ListFills}

-- each tree is on the list of them
pub map_part : (t : ℕ → Tree) (k v : ℕ) → v < k → PartOf (t v) (map_trees t k)
unfolding map_trees
map_part t k v l = map_upto t (suc v) k (omega arith) (part_right (map_trees t v) (in_first whole))

-- ## Every part has an id

pub held_map : {u : List ℕ} {n : ℕ} {ids : List ℕ} (t : ℕ → Tree) (k : ℕ) → Good u n → Stand u n ids 0 (map_trees t k) → Held u n (map_trees t k)
held_map {u} {n} t k good s = record {
  each = λ x q.
      let r = part_map t k q in
      let i = stand_at t k r.0 r.0 r.1 (omega arith) s in
      let y = parts_held u n good r.2 _ i.id i.is in
      (y.0, record { id = y.1; is = y.2 });
}

pub held_append : {u : List ℕ} {n : ℕ} {ts us : List Tree} → Held u n ts → Held u n us → Held u n (ts ++ us)
held_append {ts} p q = record { each = λ s r. ⊎_elim (p.each s) (q.each s) (part_split ts r) }

pub held_kept : {w : List ℕ} {n : ℕ} {u : List ℕ} {m : ℕ} {ts : List Tree} → Keeps w n u m → Held w n ts → Held u m ts
held_kept k h = record { each = λ s q. let r = h.each s q in (r.0, is_kept k r.1) }

-- ## A list after one that is worked

module _ {w : List ℕ} {a : Head} {ts : List Tree} {u : List ℕ} {b : Head} (g : Gains w a ts u b) (h : Held u b.used ts) where
  pub listed_after : (us : List Tree) (t : ℕ → Tree) (k : ℕ) (u' : List ℕ) (c : Head) (ids : List ℕ) (z : Result (Unit {0}) Full) → ListFills u b us t k u' c ids z → ListFills w a (ts ++ us) t k u' c ids z
  unfolding ListFills
  listed_after us t k u' c ids (Ok done) l = record {
    gains = gains_after g l.gains;
    held = held_append (held_kept l.gains.keeps h) l.held;
    stand = l.stand;
    size = l.size;
  }
  listed_after us t k u' c ids (Err full) m = misses_after g m
