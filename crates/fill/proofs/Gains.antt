-- Lists of trees worked one after another. Assumes nothing.
use mathlib.Core.Path.{refl, ◌∙◌}
use mathlib.Core.List.{List, [], ◌∷◌, ◌++◌}
use mathlib.Core.Logic.{⊎_elim}
use Prim.Native.Nat.{ℕ, ◌+◌}
use native.Mathlib.Omega.{arith}
use Rattle.tree.specs.Tree.{Tree}
use Rattle.tree.proofs.Cases.{lt-or-le}
use Rattle.diagram.specs.declared.Head.{Head}
use Rattle.diagram.specs.Contract.{Keeps, Has, Lacks, Ready, Under}
use Rattle.diagram.proofs.Grown.{tally_none, tally_after, keeps_all, keeps_after}
use Rattle.fill.specs.Work.{PartOf, in_first, Gains, Misses, Is, Stand, Ended}
use Rattle.fill.specs.Contract.{Known}
use Rattle.fill.proofs.Parts.{part_left, part_right}

-- ## No tree, and one tree

pub gains_none : (w : List ℕ) (a : Head) (ts : List Tree) → Ready w a → Gains w a ts w a
gains_none w a ts k = record {
  good = k.good;
  keeps = keeps_all w a.used;
  tally = tally_none a k.tallied;
  room = refl;
  rest = refl;
  new = λ x lo hi. absurd (omega arith);
}

pub gains_one : {w : List ℕ} {a : Head} {t : Tree} {u : List ℕ} {b : Head} {r : ℕ} → Has w a t u b r → Gains w a (t ∷ []) u b
gains_one h = record {
  good = h.grown.good;
  keeps = h.grown.keeps;
  tally = h.tally;
  room = h.grown.room;
  rest = h.grown.rest;
  new = λ x lo hi. in_first (h.grown.new x lo hi);
}

pub misses_one : {w : List ℕ} {a : Head} {t : Tree} {u : List ℕ} {b : Head} → Lacks w a t u b → Misses w a (t ∷ []) u b
misses_one k = record {
  gains = record {
    good = k.grown.good;
    keeps = k.grown.keeps;
    tally = k.tally;
    room = k.grown.room;
    rest = k.grown.rest;
    new = λ x lo hi. in_first (k.grown.new x lo hi);
  };
  full = k.full;
  part = k.part;
  of = in_first k.of;
  none = k.none;
}

pub gains_ready : {w : List ℕ} {a : Head} {ts : List Tree} {u : List ℕ} {b : Head} → Gains w a ts u b → Ready u b
gains_ready g = record { good = g.good; tallied = omega (arith, g.tally.most) }

-- ## One list after another

pub gains_after : {w : List ℕ} {a : Head} {ts : List Tree} {u : List ℕ} {b : Head} {us : List Tree} {u' : List ℕ} {c : Head}
    → Gains w a ts u b → Gains u b us u' c → Gains w a (ts ++ us) u' c
gains_after {a} {ts} {b} {us} {c} g k = record {
  good = k.good;
  keeps = keeps_after g.keeps k.keeps;
  tally = tally_after a b c k.keeps.more g.tally k.tally;
  room = k.room ∙ g.room;
  rest = k.rest ∙ g.rest;
  new = λ x lo hi. ⊎_elim
      (λ old. rw (k.keeps.same x old) (part_left us (g.new x lo old)))
      (λ new. part_right ts (k.new x new hi))
      (lt-or-le x (b.used + 2));
}

pub misses_after : {w : List ℕ} {a : Head} {ts : List Tree} {u : List ℕ} {b : Head} {us : List Tree} {u' : List ℕ} {c : Head}
    → Gains w a ts u b → Misses u b us u' c → Misses w a (ts ++ us) u' c
misses_after {ts} g k = record {
  gains = gains_after g k.gains;
  full = k.full ∙ g.room;
  part = k.part;
  of = part_right ts k.of;
  none = k.none;
}

-- ## Another list with the same parts, or more

pub gains_wider : {w : List ℕ} {a : Head} {ts : List Tree} {u : List ℕ} {b : Head} (us : List Tree) → ((s : Tree) → PartOf s ts → PartOf s us) → Gains w a ts u b → Gains w a us u b
gains_wider us f g = record { good = g.good; keeps = g.keeps; tally = g.tally; room = g.room; rest = g.rest; new = λ x lo hi. f _ (g.new x lo hi) }

pub misses_wider : {w : List ℕ} {a : Head} {ts : List Tree} {u : List ℕ} {b : Head} (us : List Tree) → ((s : Tree) → PartOf s ts → PartOf s us) → Misses w a ts u b → Misses w a us u b
misses_wider us f k = record { gains = gains_wider us f k.gains; full = k.full; part = k.part; of = f _ k.of; none = k.none }

-- ## Ids are kept

pub is_kept : {w : List ℕ} {n : ℕ} {u : List ℕ} {m x : ℕ} {t : Tree} → Keeps w n u m → Is w n x t → Is u m x t
is_kept {x} k i = record { id = omega (arith, k.more, i.id); is = k.same x i.id ∙ i.is }

pub stand_kept : {w : List ℕ} {n : ℕ} {u : List ℕ} {m : ℕ} {ids : List ℕ} {off : ℕ} {ts : List Tree} → Keeps w n u m → Stand w n ids off ts → Stand u m ids off ts
stand_kept k s = record { each = λ i l. is_kept k (s.each i l) }

pub under_kept : {w : List ℕ} {n : ℕ} {u : List ℕ} {m x left : ℕ} → Keeps w n u m → Under w n x left → Under u m x left
under_kept {x} k l = record { id = omega (arith, k.more, l.id); levels = rw (k.same x l.id) l.levels }

pub known_kept : {w : List ℕ} {n : ℕ} {u : List ℕ} {m : ℕ} {ids : List ℕ} {left : ℕ} → Keeps w n u m → Known w n ids left → Known u m ids left
known_kept k s = record { each = λ v l. under_kept k (s.each v l) }

pub ended_under : {w : List ℕ} {a : Head} {ts : List Tree} {t : Tree} {left : ℕ} {u : List ℕ} {b : Head} {x : ℕ} → Ended w a ts t left u b x → Under u b.used x left
ended_under e = record { id = e.is.id; levels = rw e.is.is e.levels }
