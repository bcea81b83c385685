-- What refine writes is the coarsest signal correspondence inside the proposal. Assumes nothing.
use mathlib.Core.Path.{◌≡◌, subst}
use mathlib.Core.List.{List}
use Prim.Native.Nat.{ℕ, zero, suc, ◌<◌}
use Rattle.meaning.specs.Sheet.{Sheet}
use Rattle.meaning.specs.Joint.{class, total, T, rounds}
use Rattle.promises.specs.Correspondence.{Together, Conforms, StepEqual, Start, Step, Correspondence, Inside, CoarsestInside}
use Rattle.promises.proofs.Equations.{equation_2, equation_3}
use Rattle.promises.proofs.Rounds.{T_finer, rounds_fixed}

module _ (A B : Sheet) (p : List ℕ) where
  together : (g : List ℕ) (u v : ℕ) → u < total A B → v < total A B → class g u ≡ class g v → Together A B g u v
  together g u v lu lv c = record { left = lu; right = lv; classes = c }

  -- what is together in some T is together in those before
  T-zero : (i u v : ℕ) → Together A B (T A B p i) u v → Together A B (T A B p 0) u v
  T-zero zero u v t = t
  T-zero (suc i) u v t = T-zero i u v (together (T A B p i) u v t.left t.right (T_finer A B p i u v t.left t.right t.classes))

  pub T-inside : (i : ℕ) → Inside A B (T A B p i) p
  unfolding Inside
  T-inside i u v t = let z = T-zero i u v t in ((equation_2 A B p u v z.left z.right).0 z.classes).0

  pub T-start : (i : ℕ) → Start A B (T A B p i)
  unfolding Start
  T-start i u v t = let z = T-zero i u v t in ((equation_2 A B p u v z.left z.right).0 z.classes).1

  pub T-step : 0 < total A B → Step A B (T A B p (rounds A B p))
  unfolding Step
  T-step pos u v t =
      ((equation_3 A B p (rounds A B p) u v t.left t.right).0
      (subst (λ (g : List ℕ). class g u ≡ class g v) (rounds_fixed A B p pos) t.classes)).1

  -- a signal correspondence inside the proposal is inside every T
  pub T_above : (g : List ℕ) → Inside A B g p → Correspondence A B g → (i : ℕ) → Inside A B g (T A B p i)
  unfolding Inside Start Step StepEqual Conforms
  T_above g in_p c zero u v t = (equation_2 A B p u v t.left t.right).1 (in_p u v t, c.start u v t)
  T_above g in_p c (suc i) u v t =
      let below = T_above g in_p c i in
      (equation_3 A B p i u v t.left t.right).1 (
        below u v t,
        (λ s x y k l m a. c.step u v t s x y k l m (λ u v t. a u v (together (T A B p i) u v t.left t.right (below u v t)))),
      )

  pub T-coarsest : 0 < total A B → CoarsestInside A B p (T A B p (rounds A B p))
  T-coarsest pos = record {
    inside = T-inside (rounds A B p);
    corresponds = record { start = T-start (rounds A B p); step = T-step pos };
    coarsest = λ other in_p c. T_above other in_p c (rounds A B p);
  }
