-- An array filled with the ids of one list of trees after another. Assumes nothing.
use mathlib.Core.Path.{◌≡◌, refl, ◌∙◌}
use mathlib.Core.Bool.{false}
use mathlib.Core.List.{List, [], ◌∷◌, ◌++◌}
use mathlib.Core.Logic.{⊎_elim}
use Prim.Native.Nat.{ℕ, ◌+◌, ◌-◌, ◌<◌}
use native.Mathlib.Omega.{arith}
use lib.ListN.{length, set, length-set, length-append, get_or-append}
use lib.Seq.{get_or_at, get_or-set_same, get_or-set_other, get_or-append-add}
use Rattle.tree.specs.Tree.{Tree, leaf}
use Rattle.tree.proofs.Cases.{lt-or-le}
use Rattle.std.specs.Prelude.{Result, Ok, Err}
use Rattle.diagram.specs.declared.Full.{Full}
use Rattle.diagram.specs.declared.Head.{Head}
use Rattle.diagram.specs.Contract.{Has, Ready}
use Rattle.fill.specs.Work.{Filled, Fills}
use Rattle.fill.proofs.Gains.{gains_none, gains_one, gains_after, misses_after, is_kept}

pub filled_none : (w : List ℕ) (a : Head) (old : List ℕ) (off : ℕ) → Ready w a → Filled w a [] old off w a old
filled_none w a old off k = record {
  gains = gains_none w a [] k;
  stand = record { each = λ i l. absurd (omega arith) };
  frame = record { size = refl; below = λ i l. refl; above = λ i l. refl };
}

-- one tree more, whose id is put in the next place
pub filled_more : {w : List ℕ} {a : Head} {ts : List Tree} {old : List ℕ} {off : ℕ} {u : List ℕ} {b : Head} {ids : List ℕ} {t : Tree} {u' : List ℕ} {c : Head} {x at : ℕ}
    → at ≡ off + length ts → at < length ids → Filled w a ts old off u b ids → Has u b t u' c x → Filled w a (ts ++ (t ∷ [])) old off u' c (set ids at x)
filled_more {ts} {off} {ids} {t} {x} {at} e l f h = record {
  gains = gains_after f.gains (gains_one h);
  stand = record {
    each = λ i li. ⊎_elim
        (λ old.
        let ne : off + i ≡ at → ⊥ = omega arith in
        rw (get_or-append ts (t ∷ []) (leaf false) i old, get_or-set_other ids at (off + i) x 0 ne) (is_kept h.grown.keeps (f.stand.each i old)))
        (λ new.
        let z : i ≡ length ts = omega (arith, length-append ts (t ∷ [])) in
        rw (z, get_or_at ts t [] (leaf false) (length ts) refl, ← e, get_or-set_same ids at x 0 l) (record { id = h.id; is = h.is }))
        (lt-or-le i (length ts));
  };
  frame = record {
    size = length-set ids at x ∙ f.frame.size;
    below = λ i li. get_or-set_other ids at i x 0 (omega arith) ∙ f.frame.below i li;
    above = λ i li. get_or-set_other ids at i x 0 (omega (arith, length-append ts (t ∷ []))) ∙ f.frame.above i (omega (arith, length-append ts (t ∷ [])));
  };
}

-- ## One list after another

module _ {w : List ℕ} {a : Head} {ts : List Tree} {old : List ℕ} {off : ℕ} {u : List ℕ} {b : Head} {mid : List ℕ} (f : Filled w a ts old off u b mid)
    {at : ℕ} (next : at ≡ off + length ts) where
  pub filled_after : {us : List Tree} {u' : List ℕ} {c : Head} {ids : List ℕ} → Filled u b us mid at u' c ids → Filled w a (ts ++ us) old off u' c ids
  filled_after {us} {ids} s = record {
    gains = gains_after f.gains s.gains;
    stand = record {
      each = λ i l. ⊎_elim
          (λ lt. rw (get_or-append ts us (leaf false) i lt, s.frame.below (off + i) (omega arith)) (is_kept s.gains.keeps (f.stand.each i lt)))
          (λ ge.
          let j : ℕ = i - length ts in
          let e : i ≡ length ts + j = omega arith in
          let z : off + (length ts + j) ≡ at + j = omega arith in
          rw (e, get_or-append-add ts us j (leaf false), z) (s.stand.each j (omega (arith, length-append ts us))))
          (lt-or-le i (length ts));
    };
    frame = record {
      size = s.frame.size ∙ f.frame.size;
      below = λ i l. s.frame.below i (omega arith) ∙ f.frame.below i l;
      above = λ i l. s.frame.above i (omega (arith, length-append ts us)) ∙ f.frame.above i (omega (arith, length-append ts us));
    };
  }

  pub fills_after : (us : List Tree) (u' : List ℕ) (c : Head) (ids : List ℕ) (r : Result (Unit {0}) Full) → Fills u b us mid at u' c ids r → Fills w a (ts ++ us) old off u' c ids r
  unfolding Fills
  fills_after us u' c ids (Ok done) s = filled_after s
  fills_after us u' c ids (Err full) s = (misses_after f.gains s.0, s.1)
