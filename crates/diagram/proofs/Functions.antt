-- How a table comes to hold a list of functions, in any order: what working a list needs. Assumes nothing.
use mathlib.Core.Path.{◌≡◌, refl, sym, ap, ◌∙◌}
use mathlib.Core.Bool.{Bool, not}
use mathlib.Core.List.{List}
use mathlib.Core.Logic.{⊎_elim}
use Prim.Native.Nat.{ℕ, ◌+◌, ◌-◌, ◌≤◌, ◌<◌}
use native.Mathlib.Omega.{arith}
use lib.ListN.{length}
use Rattle.std.specs.Prelude.{Result, Ok, Err}
use Rattle.meaning.specs.Basic.{bit}
use Rattle.meaning.specs.Room.{node_count, cleared}
use Rattle.tree.specs.Tree.{complement_tree}
use Rattle.tree.specs.Function.{tree_for, Columns, Part}
use Rattle.tree.proofs.Cases.{lt-or-le}
use Rattle.tree.proofs.Function.{for_height, for_same, for_combine, for_complement, for_constant, for_variable}
use Rattle.tree.proofs.NodeCount.{node_count_lem, node_count_is}
use Rattle.diagram.specs.declared.Full.{Full}
use Rattle.diagram.specs.declared.Head.{Head}
use Rattle.diagram.specs.Words.{room_of}
use Rattle.diagram.specs.Table.{tree_at, glued, combined, Good}
use Rattle.diagram.specs.Contract.{Keeps, Grown, Tally, Lacks, Gives, Ready, Under, MakeAsks, CombineAsks, ComplementAsks}
use Rattle.diagram.specs.Functions.{Holds, AllHeld, Inside, Gained, Over, Outcome}
use Rattle.diagram.proofs.Trees.{id_of_constant, constant_id, tree-constant, height-constant, node_inner, inner_id}
use Rattle.diagram.proofs.Grown.{tally_none, tally_after, keeps_all, keeps_after}
use Rattle.diagram.proofs.Counting.{parts_held, missing_inner, table_counted, table_above}
use Rattle.diagram.proofs.Empty.{cleared_good}

-- ## A table inside a list

module _ (m : ℕ) (P : (List Bool → Bool) → Type 0) where
  pub inside_empty : (w : List ℕ) (a : Head) → a.used ≡ 0 → Inside (cleared w) a m P
  inside_empty w a z = record { ready = record { good = rw z (cleared_good w); tallied = omega arith }; needed = λ i l. absurd (omega arith) }

  -- what grew by a function of the list is inside it still
  pub inside_grown : (w : List ℕ) (a : Head) (u : List ℕ) (b : Head) (f : List Bool → Bool)
      → P f → Inside w a m P → Grown w a.used (tree_for m f) u b.used → Tally a b → Inside u b m P
  unfolding Part
  inside_grown w a u b f is i g t = record {
    ready = record { good = g.good; tallied = omega (arith, t.most) };
    needed = λ j lj. ⊎_elim
        (λ old. rw (g.keeps.same (j + 2) (omega arith)) (i.needed j old))
        (λ new. (node_inner u b.used j g.good lj, (f, is, g.new (j + 2) (omega arith) (omega arith))))
        (lt-or-le j a.used);
  }

  module _ (row : List Bool → List Bool) (k : ℕ) (c : Columns row k P) where
    -- FULL: the list does not fit
    pub inside_full : (w : List ℕ) (a : Head) (u : List ℕ) (b : Head) (f : List Bool → Bool) → P f → Inside w a m P → Lacks w a (tree_for m f) u b → room_of w < node_count m row
    unfolding Part
    inside_full w a u b f is i l =
        let j = inside_grown w a u b f is i l.grown l.tally in
        let part : Part m P l.part = (missing_inner u b.used l.part l.none, (f, is, l.of)) in
        omega (arith, l.full, table_above (Part m P) u b.used j.ready.good j.needed l.part part l.none (node_count m row) (node_count_lem m k row P c))

    -- ALL: every function is held, so the nodes used are the count
    pub inside_all : (w : List ℕ) (a : Head) → Inside w a m P → AllHeld w a.used m P → a.used ≡ node_count m row
    unfolding Part
    inside_all w a i held =
        node_count_is m k row P c a.used
        (table_counted (Part m P) w a.used i.ready.good i.needed
        (λ s p.
        let h = held p.1.0 p.1.1 in
        let y = parts_held w a.used i.ready.good p.1.2 h.0 h.1.id h.1.is in
        inner_id w a.used s p.0 y.0 y.1 y.2))

    -- so the list fits
    pub inside_fits : (w : List ℕ) (a : Head) → Inside w a m P → AllHeld w a.used m P → node_count m row ≤ room_of w
    inside_fits w a i held = let e = inside_all w a i held in let l = i.ready.good.fits in omega arith

-- ## Ids of functions

-- an id keeps its function
pub holds_kept : {w : List ℕ} {n : ℕ} {u : List ℕ} {n' m : ℕ} {f : List Bool → Bool} {x : ℕ} → Keeps w n u n' → Holds w n m f x → Holds u n' m f x
holds_kept {x} k h = let l = k.more in let i = h.id in record { id = omega arith; is = k.same x h.id ∙ h.is }

-- functions that agree at all assignments of the variables have one id
pub holds_same : {w : List ℕ} {n m : ℕ} {x : ℕ} (f g : List Bool → Bool) → ((e : List Bool) → length e ≡ m → f e ≡ g e) → Holds w n m f x → Holds w n m g x
holds_same {m} f g e h = record { id = h.id; is = h.is ∙ for_same m f g e }

-- two functions have one tree exactly when they have one id
pub holds_equal : {w : List ℕ} {n m : ℕ} {f g : List Bool → Bool} {x y : ℕ} → Good w n → Holds w n m f x → Holds w n m g y → tree_for m f ≡ tree_for m g → x ≡ y
holds_equal {x} {y} q p r e = q.once x y p.id r.id (p.is ∙ e ∙ sym r.is)

pub equal_holds : {w : List ℕ} {n m : ℕ} {f g : List Bool → Bool} {x y : ℕ} → Holds w n m f x → Holds w n m g y → x ≡ y → tree_for m f ≡ tree_for m g
equal_holds {w} {n} p r e = sym p.is ∙ ap (tree_at w n) e ∙ r.is

pub holds_constant : (w : List ℕ) (n m : ℕ) (b : Bool) → Holds w n m (λ e. b) (id_of_constant b)
holds_constant w n m b = let c = constant_id w n b in record { id = c.0; is = c.1 ∙ sym (for_constant m b) }

holds_under : {w : List ℕ} {n m : ℕ} {f : List Bool → Bool} {x : ℕ} → Holds w n m f x → Under w n x m
holds_under {m} {f} h = record { id = h.id; levels = rw h.is (for_height m f) }

-- ## What the calls are asked for functions that are held

pub combine_asks : (w : List ℕ) (a : Head) (m x y : ℕ) (f g : List Bool → Bool) → Ready w a → Holds w a.used m f x → Holds w a.used m g y → CombineAsks w a x y m
combine_asks w a m x y f g k p q = record { ready = k; first = holds_under p; second = holds_under q }

pub complement_asks : (w : List ℕ) (a : Head) (m x : ℕ) (f : List Bool → Bool) → Ready w a → Holds w a.used m f x → ComplementAsks w a x m
complement_asks w a m x f k p = record { ready = k; operand = holds_under p }

-- variable v of m is made over the constants
pub variable_asks : (w : List ℕ) (a : Head) (m v : ℕ) → Ready w a → m < 65536 → v < m → MakeAsks w a (m - v) 0 1
variable_asks w a m v k t l = record {
  ready = k;
  tall = omega arith;
  low = omega arith;
  high = omega arith;
  lows = omega (arith, height-constant w a.used 0 (omega arith));
  highs = omega (arith, height-constant w a.used 1 (omega arith));
}

-- ## What the calls say of a function of the list

module _ (w : List ℕ) (a : Head) (m : ℕ) (P : (List Bool → Bool) → Type 0) (i : Inside w a m P) (f : List Bool → Bool) (is : P f) where
  pub outcome : (u : List ℕ) (b : Head) (r : Result ℕ Full) → Gives w a (tree_for m f) u b r → Outcome w a m P f u b r
  unfolding Gives Outcome
  outcome u b (Ok r) s = record {
    inside = inside_grown m P w a u b f is i s.grown s.tally;
    holds = record { id = s.id; is = s.is };
    keeps = s.grown.keeps;
    tally = s.tally;
    room = s.grown.room;
    rest = s.grown.rest;
  }
  outcome u b (Err full) (s, e) = (
    record {
      tally = s.tally;
      full = s.full;
      room = s.grown.room;
      rest = s.grown.rest;
      over = λ row k c. inside_full m P row k c w a u b f is i s;
    },
    e,
  )

  pub outcome_combine : (op : Bool → Bool → Bool) (x y : ℕ) (p q : List Bool → Bool) → Holds w a.used m p x → Holds w a.used m q y
      → ((e : List Bool) → length e ≡ m → op (p e) (q e) ≡ f e)
      → (u : List ℕ) (b : Head) (r : Result ℕ Full) → Gives w a (combined w a.used op x y) u b r → Outcome w a m P f u b r
  outcome_combine op x y p q hp hq h u b r s =
      outcome u b r (rw (hp.is, hq.is, for_combine op m p q, for_same m (λ e. op (p e) (q e)) f h) at s)

  pub outcome_complement : (x : ℕ) (p : List Bool → Bool) → Holds w a.used m p x → ((e : List Bool) → length e ≡ m → not (p e) ≡ f e)
      → (u : List ℕ) (b : Head) (r : Result ℕ Full) → Gives w a (complement_tree (tree_at w a.used x)) u b r → Outcome w a m P f u b r
  outcome_complement x p hp h u b r s = outcome u b r (rw (hp.is, for_complement m p, for_same m (λ e. not (p e)) f h) at s)

  pub outcome_variable : (v : ℕ) → v < m → ((e : List Bool) → length e ≡ m → bit e v ≡ f e)
      → (u : List ℕ) (b : Head) (r : Result ℕ Full) → Gives w a (glued w a.used (m - v) 0 1) u b r → Outcome w a m P f u b r
  outcome_variable v l h u b r s =
      outcome u b r (rw (tree-constant w a.used 0 (omega arith), tree-constant w a.used 1 (omega arith), ← for_variable m v l, for_same m (λ e. bit e v) f h) at s)

-- ## Steps after one another

module _ {m : ℕ} {P : (List Bool → Bool) → Type 0} where
  -- a function that is there already
  pub gained_none : {w : List ℕ} {a : Head} {f : List Bool → Bool} {r : ℕ} → Inside w a m P → Holds w a.used m f r → Gained w a m P f w a r
  gained_none {w} {a} i h = record { inside = i; holds = h; keeps = keeps_all w a.used; tally = tally_none a i.ready.tallied; room = refl; rest = refl }

  pub gained_after : {w : List ℕ} {a : Head} {f g : List Bool → Bool} {u : List ℕ} {b : Head} {x : ℕ} {u' : List ℕ} {c : Head} {y : ℕ}
      → Gained w a m P f u b x → Gained u b m P g u' c y → Gained w a m P g u' c y
  gained_after {a} {b} {c} s t = record {
    inside = t.inside;
    holds = t.holds;
    keeps = keeps_after s.keeps t.keeps;
    tally = tally_after a b c t.keeps.more s.tally t.tally;
    room = t.room ∙ s.room;
    rest = t.rest ∙ s.rest;
  }

  pub over_after : {w : List ℕ} {a : Head} {f : List Bool → Bool} {u : List ℕ} {b : Head} {x : ℕ} {u' : List ℕ} {c : Head}
      → Gained w a m P f u b x → Over u b m P u' c → Over w a m P u' c
  over_after {a} {b} {c} s o = record {
    tally = tally_after a b c (omega (arith, o.full, s.inside.ready.good.fits)) s.tally o.tally;
    full = o.full ∙ s.room;
    room = o.room ∙ s.room;
    rest = o.rest ∙ s.rest;
    over = λ row k d. omega (arith, o.over row k d, s.room);
  }

  pub outcome-after : {w : List ℕ} {a : Head} {f : List Bool → Bool} {u : List ℕ} {b : Head} {x : ℕ} (g : List Bool → Bool) (u' : List ℕ) (c : Head) (r : Result ℕ Full)
      → Gained w a m P f u b x → Outcome u b m P g u' c r → Outcome w a m P g u' c r
  unfolding Outcome
  outcome-after g u' c (Ok y) s t = gained_after s t
  outcome-after g u' c (Err full) s (o, e) = (over_after s o, e)
