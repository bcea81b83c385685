-- A list of trees worked in an emptied table: the nodes used are the node count of the list of functions that it makes up, or that is more
-- than there is room for. Assumes nothing.
use mathlib.Core.Path.{◌≡◌, sym, ap, subst, ◌∙◌}
use mathlib.Core.Bool.{Bool}
use mathlib.Core.List.{List, [], ◌++◌}
use mathlib.Core.Logic.{⊎_elim}
use Prim.Native.Nat.{ℕ, ◌+◌, ◌<◌, ◌≤◌, max}
use native.Mathlib.Omega.{arith}
use Rattle.meaning.specs.Room.{node_count}
use Rattle.tree.specs.Tree.{Tree, Sub}
use Rattle.tree.specs.Function.{tree_for, Columns, Part}
use Rattle.diagram.specs.declared.Head.{Head}
use Rattle.diagram.specs.Words.{room_of}
use Rattle.diagram.specs.Contract.{Lacks}
use Rattle.diagram.specs.Functions.{AllHeld, Inside}
use Rattle.diagram.proofs.Trees.{node_inner}
use Rattle.diagram.proofs.Grown.{grown_none, tally_none}
use Rattle.diagram.proofs.Functions.{inside_all, inside_full, inside_fits}
use Rattle.fill.specs.Work.{Gains, Misses, Named}
use Rattle.fill.specs.Trees.{map_trees}
use Rattle.fill.proofs.Parts.{part_none, part_split}
use Rattle.fill.proofs.Gains.{gains_ready}
use Rattle.fill.proofs.MapTrees.{part_map}

-- ## What a list of trees is made of

module _ {m : ℕ} {P : (List Bool → Bool) → Type 0} where
  pub named_none : Named m P []
  named_none = record { each = λ s q. absurd (part_none q) }

  pub named-append : {ts us : List Tree} → Named m P ts → Named m P us → Named m P (ts ++ us)
  named-append {ts} p q = record { each = λ s r. ⊎_elim (p.each s) (q.each s) (part_split ts r) }

  pub named-map : (t : ℕ → Tree) (f : ℕ → List Bool → Bool) (k : ℕ) → ((v : ℕ) → v < k → P (f v)) → ((v : ℕ) → v < k → t v ≡ tree_for m (f v))
      → Named m P (map_trees t k)
  named-map t f k is e = record { each = λ s q. let r = part_map t k q in (f r.0, is r.0 r.1, subst (Sub s) (e r.0 r.1) r.2) }

-- ## The count

module _ {m : ℕ} {P : (List Bool → Bool) → Type 0} {row : List Bool → List Bool} {k : ℕ} (c : Columns row k P)
    {w : List ℕ} {a : Head} {ts : List Tree} {u : List ℕ} {b : Head} (empty : a.used ≡ 0) (named : Named m P ts) where
  -- nothing is in the table that the list of functions does not count
  inside : Gains w a ts u b → Inside u b m P
  unfolding Part
  inside g = record {
    ready = gains_ready g;
    needed = λ i l. (node_inner u b.used i g.good l, named.each _ (g.new (i + 2) (omega arith) (omega arith)));
  }

  -- FULL: the list does not fit
  pub misses_over : Misses w a ts u b → room_of w < node_count m row
  misses_over x =
      let r = named.each x.part x.of in
      let lacks : Lacks u b (tree_for m r.0) u b = record {
        grown = grown_none u b.used _ x.gains.good;
        tally = tally_none b (gains_ready x.gains).tallied;
        full = x.full ∙ sym x.gains.room;
        part = x.part;
        of = r.2;
        none = x.none;
      } in
      omega (arith, inside_full m P row k c u b u b r.0 r.1 (inside x.gains) lacks, x.gains.room)

  -- ALL: every function has an id, so the nodes used are the count, which fits, and the greatest count takes it in
  module _ (g : Gains w a ts u b) (held : AllHeld u b.used m P) where
    pub gains_count : b.used ≡ node_count m row
    gains_count = inside_all m P row k c u b (inside g) held

    pub gains_fits : node_count m row ≤ room_of w
    gains_fits = omega (arith, inside_fits m P row k c u b (inside g) held, g.room)

    pub gains_most : b.most ≡ max a.most (node_count m row)
    gains_most = g.tally.most ∙ ap (max a.most) gains_count
