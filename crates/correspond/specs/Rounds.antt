-- The rounds of a refinement, as far as they have come. Assumes nothing.
use Rattle.std.specs.Prelude.{◌≡◌, List, ℕ, suc, ◌≤◌, ◌<◌}
use Rattle.meaning.specs.Sheet.{Sheet}
use Rattle.meaning.specs.Joint.{T}
use Rattle.meaning.specs.Room.{step_count}

-- m is the greatest of base and of c 0, .., c (r - 1)
pub record GreatestBelow (base : ℕ) (c : ℕ → ℕ) (r m : ℕ) : Type 0 where
  pub from : base ≤ m
  pub each : (i : ℕ) → i < r → c i ≤ m
  pub least : (k : ℕ) → base ≤ k → ((i : ℕ) → i < r → c i ≤ k) → m ≤ k

-- r rounds have been worked with room for N nodes: g is T_r, each T before it changed, and m is the greatest count so far
pub record Running (N base : ℕ) (A B : Sheet) (p : List ℕ) (r : ℕ) (g : List ℕ) (m : ℕ) : Type 0 where
  pub grouping : g ≡ T A B p r
  pub changed : (i : ℕ) → i < r → T A B p i ≡ T A B p (suc i) → ⊥
  pub fitted : (i : ℕ) → i < r → step_count A B (T A B p i) ≤ N
  pub most : GreatestBelow base (λ i. step_count A B (T A B p i)) r m
