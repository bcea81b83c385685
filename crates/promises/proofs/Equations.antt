-- Equations 2 and 3: when two signals share a class of T_0, and of T_(i+1). Assumes nothing.
use mathlib.Core.Path.{◌≡◌, refl, sym, ◌∙◌}
use mathlib.Core.List.{List}
use mathlib.Core.Logic.{◌↔◌}
use Prim.Native.Nat.{ℕ, zero, suc, ◌<◌}
use lib.ListN.{length}
use Rattle.meaning.specs.Sheet.{Sheet}
use Rattle.meaning.specs.Joint.{class, grouping, total, start_same, step_same, T}
use Rattle.promises.specs.Correspondence.{StartEqual, StepEqual}
use Rattle.promises.proofs.Tests.{start_iff, step_iff}
use Rattle.promises.proofs.Groups.{Equivalence, length-grouping, same_class_lem, class_same, same_class, grouping_own}

module _ (A B : Sheet) (p : List ℕ) where
  pub length-T : (i : ℕ) → length (T A B p i) ≡ total A B
  unfolding T
  length-T zero = length-grouping _ (total A B)
  length-T (suc i) = length-grouping _ (total A B)

  start_equivalence : Equivalence (start_same A B p)
  unfolding StartEqual
  start_equivalence = record {
    itself = λ u. (start_iff A B p u u).1 (refl, (λ x q. refl));
    back = λ u v e. let r = (start_iff A B p u v).0 e in (start_iff A B p v u).1 (sym r.0, (λ x q. sym (r.1 x q)));
    onward = λ u v w e d.
        let r = (start_iff A B p u v).0 e in
        let s = (start_iff A B p v w).0 d in
        (start_iff A B p u w).1 (r.0 ∙ s.0, (λ x q. r.1 x q ∙ s.1 x q));
  }

  step_equivalence : (i : ℕ) → Equivalence (step_same A B (T A B p i))
  unfolding StepEqual
  step_equivalence i =
      let iff = step_iff A B (T A B p i) (length-T i) in
      record {
        itself = λ u. (iff u u).1 (refl, (λ s x y k l m c. refl));
        back = λ u v e. let r = (iff u v).0 e in (iff v u).1 (sym r.0, (λ s x y k l m c. sym (r.1 s x y k l m c)));
        onward = λ u v w e d.
            let r = (iff u v).0 e in
            let q = (iff v w).0 d in
            (iff u w).1 (r.0 ∙ q.0, (λ s x y k l m c. r.1 s x y k l m c ∙ q.1 s x y k l m c));
      }

  -- Equation 2, inside the proposal
  pub equation_2 : (u v : ℕ) → u < total A B → v < total A B
      → (class (T A B p 0) u ≡ class (T A B p 0) v) ↔ ((class p u ≡ class p v) × StartEqual A B u v)
  unfolding T
  equation_2 u v lu lv = (
    (λ e. (start_iff A B p u v).0 (class_same _ start_equivalence (total A B) u v lu lv e)),
    (λ e. same_class_lem _ start_equivalence (total A B) u v lu lv ((start_iff A B p u v).1 e)),
  )

  -- Equation 3
  pub equation_3 : (i u v : ℕ) → u < total A B → v < total A B
      → (class (T A B p (suc i)) u ≡ class (T A B p (suc i)) v)
      ↔ ((class (T A B p i) u ≡ class (T A B p i) v) × StepEqual A B (T A B p i) u v)
  unfolding T
  equation_3 i u v lu lv = (
    (λ e. (step_iff A B (T A B p i) (length-T i) u v).0 (class_same _ (step_equivalence i) (total A B) u v lu lv e)),
    (λ e. same_class_lem _ (step_equivalence i) (total A B) u v lu lv ((step_iff A B (T A B p i) (length-T i) u v).1 e)),
  )

  -- the classes of each T are numbered in order of first member
  pub T_own : (i : ℕ) → T A B p i ≡ grouping (total A B) (same_class (T A B p i))
  unfolding T
  T_own zero = grouping_own _ start_equivalence (total A B)
  T_own (suc i) = grouping_own _ (step_equivalence i) (total A B)
