-- Two signals of one class and one id. Assumes nothing.
use mathlib.Core.Path.{◌≡◌, refl, sym, ◌∙◌}
use mathlib.Core.Bool.{true}
use mathlib.Core.List.{List}
use mathlib.Core.Logic.{◌↔◌}
use Prim.Native.Nat.{ℕ}
use lib.ListN.{get_or}
use lib.Dec.{eqb}
use borrow.Author.Tests.{eqb-true, eq-eqb}
use Rattle.meaning.specs.Joint.{class}
use Rattle.laws.proofs.Basic.{and_left, and_right, and_both}
use Rattle.promises.proofs.Groups.{Equivalence}
use Rattle.groups.specs.ByIds.{same_by}

module _ (g ids : List ℕ) where
  pub same_iff : (u v : ℕ) → (same_by g ids u v ≡ true) ↔ ((class g u ≡ class g v) × (get_or ids u 0 ≡ get_or ids v 0))
  unfolding same_by
  same_iff u v =
      let c = eqb (class g u) (class g v) in
      let i = eqb (get_or ids u 0) (get_or ids v 0) in (
        (λ t. (eqb-true _ _ (and_left c i t), eqb-true _ _ (and_right c i t))),
        (λ s. and_both c i (eq-eqb _ _ s.0) (eq-eqb _ _ s.1)),
      )

  pub same_equivalence : Equivalence (same_by g ids)
  same_equivalence = record {
    itself = λ u. (same_iff u u).1 (refl, refl);
    back = λ u v e. let r = (same_iff u v).0 e in (same_iff v u).1 (sym r.0, sym r.1);
    onward = λ u v w e d.
        let r = (same_iff u v).0 e in
        let s = (same_iff v w).0 d in
        (same_iff u w).1 (r.0 ∙ s.0, r.1 ∙ s.1);
  }
