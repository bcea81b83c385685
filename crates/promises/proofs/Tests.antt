-- The computed tests say exactly what van Eijk's definitions say. Assumes nothing.
use mathlib.Core.Path.{◌≡◌, refl, sym, ap, ◌∙◌}
use mathlib.Core.Bool.{Bool, true, not, ◌||◌, beq}
use mathlib.Core.List.{List, ◌++◌}
use mathlib.Core.Logic.{◌↔◌}
use Prim.Native.Nat.{ℕ, ◌≤◌, ◌<◌}
use native.Mathlib.Omega.{arith}
use lib.ListN.{length}
use lib.Dec.{eqb, ltb}
use borrow.Author.Tests.{eqb-true, eq-eqb, ltb-true, ltb-false}
use Rattle.meaning.specs.Basic.{bit, least_from, every}
use Rattle.meaning.specs.Sheet.{Sheet}
use Rattle.meaning.specs.Joint.{class, first, matches, ins, total, variables, s0, polarity, h, state_of, x_of, y_of, h_now, h_next, Q, start_same, step_same, outA, outB, paired}
use Rattle.laws.proofs.Basic.{case_bool, true_false, and_left, and_right, and_both, or_right, or_intro, beq-eq, eq-beq, least_is, every_all, all_every, all_kept, kept_all}
use Rattle.promises.specs.Correspondence.{Together, StartEqual, Conforms, StepEqual, PairedAt}
use Rattle.promises.proofs.Joint.{size_of, state_of_lem, x_of_lem, y_of_lem, length_state, length_x, length_y}

-- ## The first of a class

-- the first of v's class is a signal of it, and no later than v
pub first_is : (g : List ℕ) (v : ℕ) → v < length g → (class g (first g v) ≡ class g v) × (first g v ≤ v)
unfolding first
first_is g v l =
    let r = least_is 0 (length g) (λ u. eqb (class g u) (class g v)) in
    let near : first g v ≤ v = case_bool (ltb v (first g v))
    (λ t. true_false (eqb (class g v) (class g v)) (eq-eqb (class g v) (class g v) refl) (r.before v (omega arith) (ltb-true _ _ t)))
    (λ t. ltb-false _ _ t) in
    (eqb-true _ _ (r.here (omega arith)), near)

pub first_of : (g : List ℕ) (u v : ℕ) → class g u ≡ class g v → first g u ≡ first g v
unfolding first
first_of g u v e = ap (λ (c : ℕ). least_from 0 (length g) (λ u. eqb (class g u) c)) e

module _ (A B : Sheet) where
  -- a signal is together with the first of its class
  pub first_together : (g : List ℕ) → length g ≡ total A B → (v : ℕ) → v < total A B → Together A B g (first g v) v
  first_together g k v l = let r = first_is g v (omega arith) in record { left = omega (arith, r.1); right = l; classes = r.0 }

  -- a relation that holds of each signal and the first of its class holds within classes
  pub within_classes : (g : List ℕ) → length g ≡ total A B → (P : ℕ → ℕ → Type 0)
      → ((u v w : ℕ) → P u v → P u w → P v w) → ((v : ℕ) → v < total A B → P (first g v) v) → (u v : ℕ) → Together A B g u v → P u v
  within_classes g k P join each u v t =
      join (first g v) u v (rw (sym (first_of g u v t.classes)) (each u t.left)) (each v t.right)

  -- ## Definition 1

  pub Q_conforms : (g : List ℕ) (e : List Bool) → length g ≡ total A B → Q A B g e ≡ true → Conforms A B g (state_of A B e) (x_of A B e)
  unfolding Q matches h_now Conforms
  Q_conforms g e k q u v t =
      within_classes g k (λ u v. bit (h_now A B e) u ≡ bit (h_now A B e) v) (λ u v w p q. sym p ∙ q) to u v t
    where
      to : (w : ℕ) → w < total A B → bit (h_now A B e) (first g w) ≡ bit (h_now A B e) w
      to w l = case_bool (ltb (first g w) w)
          (λ t. beq-eq _ _ (kept_all (λ v. beq (bit (h_now A B e) (first g v)) (bit (h_now A B e) v)) (λ v. ltb (first g v) v) 0 (length g) q w (omega arith) (omega arith) t))
          (λ t. let same : first g w ≡ w = omega (arith, ltb-false (first g w) w t, (first_is g w (omega arith)).1) in ap (bit (h_now A B e)) same)

  pub conforms_Q : (g : List ℕ) (e : List Bool) → length g ≡ total A B → Conforms A B g (state_of A B e) (x_of A B e) → Q A B g e ≡ true
  unfolding Q matches h_now Conforms
  conforms_Q g e k a = all_kept _ _ 0 (length g) (λ v _ l _. eq-beq _ _ (a (first g v) v (first_together g k v (omega arith))))

  -- ## Definition 2, for two signals

  pub start_iff : (g : List ℕ) (u v : ℕ) → (start_same A B g u v ≡ true) ↔ ((class g u ≡ class g v) × StartEqual A B u v)
  unfolding start_same StartEqual
  start_iff g u v =
      let test : List Bool → Bool = λ x. beq (bit (h A B (s0 A B) x) u) (bit (h A B (s0 A B) x) v) in
      let c = eqb (class g u) (class g v) in (
        (λ t. (eqb-true _ _ (and_left c (every (ins A B) test) t), (λ x q. beq-eq _ _ (every_all (ins A B) test (and_right c (every (ins A B) test) t) x q)))),
        (λ s. and_both _ _ (eq-eqb _ _ s.0) (all_every (ins A B) _ (λ x q. eq-beq _ _ (s.1 x q)))),
      )

  pub step_iff : (g : List ℕ) → length g ≡ total A B → (u v : ℕ)
      → (step_same A B g u v ≡ true) ↔ ((class g u ≡ class g v) × StepEqual A B g u v)
  unfolding step_same StepEqual h_next
  step_iff g k u v =
      let test : List Bool → Bool = λ e. not (Q A B g e) || beq (bit (h_next A B e) u) (bit (h_next A B e) v) in
      let c = eqb (class g u) (class g v) in (
        (λ t. (eqb-true _ _ (and_left c (every (variables A B) test) t), to (and_right c (every (variables A B) test) t))),
        (λ s. and_both _ _ (eq-eqb _ _ s.0) (all_every (variables A B) _ (λ e l. or_intro (Q A B g e) _ (λ q.
            eq-beq _ _ (s.1 (state_of A B e) (x_of A B e) (y_of A B e) (length_state A B e l) (length_x A B e l) (length_y A B e l) (Q_conforms g e k q)))))),
      )
    where
      to : every (variables A B) (λ e. not (Q A B g e) || beq (bit (h_next A B e) u) (bit (h_next A B e) v)) ≡ true → StepEqual A B g u v
      to t s x y p q o a =
          let e = s ++ (x ++ y) in
          let parts : Conforms A B g (state_of A B e) (x_of A B e) = rw (state_of_lem A B s x y p, x_of_lem A B s x y p q) a in
          let next : bit (h_next A B e) u ≡ bit (h_next A B e) v =
          beq-eq _ _ (or_right (Q A B g e) _ (conforms_Q g e k parts) (every_all (variables A B) _ t e (size_of A B s x y p q o))) in
          rw (state_of_lem A B s x y p, x_of_lem A B s x y p q, y_of_lem A B s x y p q) at next

  pub paired_iff : (g : List ℕ) (i : ℕ) → (paired A B g i ≡ true) ↔ PairedAt A B g i
  unfolding paired
  paired_iff g i =
      let c = eqb (class g (outA A B i)) (class g (outB A B i)) in
      let s = beq (bit (polarity A B) (outA A B i)) (bit (polarity A B) (outB A B i)) in (
        (λ t. record { classes = eqb-true _ _ (and_left c s t); polarities = beq-eq _ _ (and_right c s t) }),
        (λ p. and_both c s (eq-eqb _ _ p.classes) (eq-beq _ _ p.polarities)),
      )
