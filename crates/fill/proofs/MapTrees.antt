-- A tree for each of the first numbers, as a list. Assumes nothing.
use mathlib.Core.Path.{◌≡◌, refl, sym, ap, ap₂, subst, ◌∙◌}
use mathlib.Core.Bool.{false}
use mathlib.Core.List.{List, [], ◌∷◌, ◌++◌, append-nil, append_assoc}
use mathlib.Core.Logic.{⊎_elim}
use Prim.Native.Nat.{ℕ, zero, suc, ◌+◌, ◌-◌, ◌<◌, ◌≤◌}
use native.Mathlib.Omega.{arith}
use native.Mathlib.Numerals.{add-one}
use lib.ListN.{length, get_or, length-append, get_or-append}
use lib.Seq.{get_or_at}
use Rattle.tree.specs.Tree.{Tree, leaf, Sub, height}
use Rattle.tree.proofs.Cases.{lt-or-le}
use Rattle.fill.specs.Work.{PartOf, Is, Stand}
use Rattle.fill.specs.Trees.{map_trees}
use Rattle.fill.specs.Contract.{Known}
use Rattle.fill.proofs.Parts.{part_none, part_one, part_left, part_split}

module _ (t : ℕ → Tree) where
  pub map_more : (k : ℕ) → map_trees t (k + 1) ≡ map_trees t k ++ (t k ∷ [])
  unfolding map_trees
  map_more k = rw (add-one k)

  pub length-map : (k : ℕ) → length (map_trees t k) ≡ k
  unfolding map_trees
  length-map zero = refl
  length-map (suc k) = omega (arith, length-append (map_trees t k) (t k ∷ []), length-map k)

  pub map-append : (k j : ℕ) → map_trees t (k + j) ≡ map_trees t k ++ map_trees (λ i. t (k + i)) j
  unfolding map_trees
  map-append k zero = let e : k + 0 ≡ k = omega arith in rw (e, append-nil)
  map-append k (suc j) = let e : k + suc j ≡ suc (k + j) = omega arith in rw (e, map-append k j, append_assoc)

  map_at : (k v : ℕ) (d : Tree) → v < k → get_or (map_trees t k) v d ≡ t v
  unfolding map_trees
  map_at zero v d l = absurd (omega arith)
  map_at (suc k) v d l = ⊎_elim
      (λ lt. get_or-append (map_trees t k) (t k ∷ []) d v (omega (arith, length-map k)) ∙ map_at k v d lt)
      (λ ge.
      let e : v ≡ length (map_trees t k) = omega (arith, length-map k) in
      let z : v ≡ k = omega arith in
      get_or_at (map_trees t k) (t k) [] d v (sym e) ∙ ap t (sym z))
      (lt-or-le v k)

  -- ## Parts

  -- a part of the trees of the first k is a part of one of them
  pub part_map : {s : Tree} (k : ℕ) → PartOf s (map_trees t k) → (v : ℕ) × (v < k) × Sub s (t v)
  unfolding map_trees
  part_map {s} zero q = absurd (part_none q)
  part_map {s} (suc k) q = ⊎_elim
      (λ l. let r : (v : ℕ) × (v < k) × Sub s (t v) = part_map {s = s} k l in (r.0, omega (arith, r.1), r.2))
      (λ l. (k, omega arith, part_one l))
      (part_split (map_trees t k) q)

  map_up : {s : Tree} (k d : ℕ) → PartOf s (map_trees t k) → PartOf s (map_trees t (k + d))
  unfolding map_trees
  map_up k zero q = let e : k + 0 ≡ k = omega arith in rw e q
  map_up k (suc d) q = let e : k + suc d ≡ suc (k + d) = omega arith in rw e (part_left _ (map_up k d q))

  -- the trees of the first k are among those of the first n
  pub map_upto : {s : Tree} (k n : ℕ) → k ≤ n → PartOf s (map_trees t k) → PartOf s (map_trees t n)
  map_upto {s} k n l q = let e : k + (n - k) ≡ n = omega arith in subst (λ (j : ℕ). PartOf s (map_trees t j)) e (map_up k (n - k) q)

  -- ## Their ids in an array

  module _ {u : List ℕ} {n : ℕ} {ids : List ℕ} (k : ℕ) where
    pub stand_at : {off : ℕ} (v at : ℕ) → v < k → at ≡ off + v → Stand u n ids off (map_trees t k) → Is u n (get_or ids at 0) (t v)
    stand_at v at l e s = rw e (rw (map_at k v (leaf false) l) at (s.each v (omega (arith, length-map k))))

    -- an array of just these ids
    pub stand_known : (left : ℕ) → length ids ≡ k → ((v : ℕ) → v < k → height (t v) ≤ left) → Stand u n ids 0 (map_trees t k) → Known u n ids left
    stand_known left size low s = record {
      each = λ v l.
          let lk : v < k = omega arith in
          let i = stand_at v v lk (omega arith) s in
          record { id = i.id; levels = rw i.is (low v lk) };
    }

pub map_same : (s t : ℕ → Tree) (k : ℕ) → ((v : ℕ) → v < k → s v ≡ t v) → map_trees s k ≡ map_trees t k
unfolding map_trees
map_same s t zero e = refl
map_same s t (suc k) e = ap₂ (λ (ts : List Tree) (x : Tree). ts ++ (x ∷ [])) (map_same s t k (λ v l. e v (omega arith))) (e k (omega arith))
