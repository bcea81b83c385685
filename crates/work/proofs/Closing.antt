-- A list worked in a table that had nothing of it: it fits, with its nodes counted and ids that tell, or it has more nodes than there is
-- room for. Assumes nothing.
use Rattle.std.specs.Prelude.{Result, Ok, Err}
use mathlib.Core.Path.{◌≡◌, refl, sym, ap, ◌∙◌}
use mathlib.Core.Bool.{Bool}
use mathlib.Core.List.{List}
use mathlib.Core.Logic.{◌↔◌}
use Prim.Native.Nat.{ℕ, ◌+◌, ◌<◌, ◌≤◌, max}
use native.Mathlib.Omega.{arith}
use lib.ListN.{get_or}
use Rattle.meaning.specs.Room.{node_count}
use Rattle.tree.specs.Tree.{Tree}
use Rattle.tree.specs.Function.{tree_for, Columns, Part}
use Rattle.tree.proofs.Count.{count_most}
use Rattle.tree.proofs.NodeCount.{node_count_lem}
use Rattle.diagram.specs.declared.Full.{Full}
use Rattle.diagram.specs.declared.Head.{Head}
use Rattle.diagram.specs.Words.{room_of, rest_of}
use Rattle.diagram.specs.Table.{tree_at}
use Rattle.diagram.specs.Contract.{Forgets}
use Rattle.diagram.specs.Functions.{AllHeld}
use Rattle.diagram.proofs.Trees.{node_inner}
use Rattle.fill.specs.Work.{PartOf, Gains, Named}
use Rattle.fill.proofs.MapTrees.{stand_at}
use Rattle.fill.proofs.Named.{gains_fits, gains_most, misses_over}
use Rattle.work.specs.Lists.{Fits, ListSays}
use Rattle.work.specs.Stages.{Listed, ListFills}

-- the table x with the head e has the room and the greatest count of (w, a), and no node yet
pub record Bare (w : List ℕ) (a : Head) (x : List ℕ) (e : Head) : Type 0 where
  pub used : e.used ≡ 0
  pub most : e.most ≡ a.most
  pub room : room_of x ≡ room_of w
  pub rest : rest_of x ≡ rest_of w

-- all nodes are taken back
pub forgot_bare : {w : List ℕ} {a : Head} {x : List ℕ} {e : Head} → Forgets w a 0 x e → Bare w a x e
forgot_bare f = record { used = f.used; most = f.most; room = f.room; rest = f.rest }

-- the words may hold nodes that are not counted yet
pub uncounted_bare : (w : List ℕ) (a : Head) → Bare w a w (record { used = 0; most = a.most })
uncounted_bare w a = record { used = refl; most = refl; room = refl; rest = refl }

-- the list ts is of the functions that P names, and the trees t tell whether two signals are the same
module _ (m : ℕ) (P : (List Bool → Bool) → Type 0) (row : List Bool → List Bool) (k : ℕ) (columns : Columns row k P) (ts : List Tree)
    (named : Named m P ts) (all : (f : List Bool → Bool) → P f → PartOf (tree_for m f) ts)
    (t : ℕ → Tree) (n : ℕ) (Same : ℕ → ℕ → Type 0) (told : (v v' : ℕ) → Same v v' ↔ (t v ≡ t v'))
    {w : List ℕ} {a : Head} {x : List ℕ} {e : Head} (bare : Bare w a x e) where
  module _ (u : List ℕ) (c : Head) (ids : List ℕ) (l : Listed x e ts t n u c ids) where
    held : AllHeld u c.used m P
    held f q = let r = l.held.each (tree_for m f) (all f q) in (r.0, record { id = r.1.id; is = r.1.is })

    tells : (v v' : ℕ) → v < n → v' < n → (get_or ids v 0 ≡ get_or ids v' 0) ↔ Same v v'
    tells v v' lv lv' =
        let i = stand_at t n v v lv (omega arith) l.stand in
        let j = stand_at t n v' v' lv' (omega arith) l.stand in (
          (λ q. (told v v').1 (sym i.is ∙ ap (tree_at u c.used) q ∙ j.is)),
          (λ s. l.gains.good.once _ _ i.id j.id (i.is ∙ (told v v').0 s ∙ sym j.is)),
        )

    fits : Fits (node_count m row) n Same w a u c ids
    fits = record {
      fits = omega (arith, gains_fits columns bare.used named l.gains held, bare.room);
      most =
          gains_most columns bare.used named l.gains held
          ∙ ap (λ (y : ℕ). max y (node_count m row)) bare.most;
      room = l.gains.room ∙ bare.room;
      rest = l.gains.rest ∙ bare.rest;
      size = l.size;
      tells = tells;
    }

  pub list_says : (u : List ℕ) (c : Head) (ids : List ℕ) (z : Result (Unit {0}) Full) → ListFills x e ts t n u c ids z → ListSays (node_count m row) n Same w a u c ids z
  unfolding ListFills ListSays
  list_says u c ids (Ok done) l = fits u c ids l
  list_says u c ids (Err full) k = record {
    over = omega (arith, misses_over columns bare.used named k, bare.room);
    room = k.gains.room ∙ bare.room;
    rest = k.gains.rest ∙ bare.rest;
  }

-- a part of the list has no more nodes than the list
pub gains_within : {m : ℕ} {P : (List Bool → Bool) → Type 0} {row : List Bool → List Bool} {k : ℕ} {x : List ℕ} {e : Head} {ts : List Tree} {u : List ℕ} {b : Head}
    → Columns row k P → e.used ≡ 0 → Named m P ts → Gains x e ts u b → b.used ≤ node_count m row
unfolding Part
gains_within {m} {P} {row} {k} {u} {b} columns none named g = count_most (Part m P) _ _ (node_count_lem m k row P columns) (record {
  tree = λ i. tree_at u b.used (i + 2);
  each = λ i l. (node_inner u b.used i g.good l, named.each _ (g.new (i + 2) (omega arith) (omega arith)));
  once = λ i j li lj q. omega (arith, g.good.once (i + 2) (j + 2) (omega arith) (omega arith) q);
})
