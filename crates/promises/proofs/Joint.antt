-- Lengths and parts of joint states, of values and of assignments. Assumes nothing.
use mathlib.Core.Path.{◌≡◌, sym, ◌∙◌}
use mathlib.Core.Bool.{Bool, beq}
use mathlib.Core.List.{List, ◌++◌}
use Prim.Native.Nat.{ℕ, ◌+◌, ◌<◌}
use native.Mathlib.Omega.{arith}
use lib.ListN.{length, take, drop, length-append, length-take, length-drop, get_or-append}
use lib.Seq.{take_at, drop_at, drop-append-add, get_or-append-add}
use Rattle.meaning.specs.Basic.{bit}
use Rattle.meaning.specs.Sheet.{Sheet}
use Rattle.meaning.specs.Tick.{values, taken}
use Rattle.meaning.specs.Joint.{regsA, regs, ins, total, variables, f, s0, after, polarity, h, state_of, x_of, y_of}
use Rattle.laws.proofs.Basic.{bit-pairwise}
use Rattle.promises.proofs.Ticks.{length-values, length-initial, length_taken}

module _ (A B : Sheet) where
  -- ## Values

  pub length-f : (s x : List Bool) → length (f A B s x) ≡ total A B
  unfolding f total
  length-f s x = simp (length-append, length-values)

  pub f_A : (s x : List Bool) (u : ℕ) → u < length A.signals
      → bit (f A B s x) u ≡ bit (values A.signals (take (regsA A B) s) x) u
  unfolding f
  f_A s x u l =
      get_or-append (values A.signals (take (regsA A B) s) x) _ _ u (omega (arith, length-values A.signals (take (regsA A B) s) x))

  pub f_B : (s x : List Bool) (u : ℕ)
      → bit (f A B s x) (length A.signals + u) ≡ bit (values B.signals (drop (regsA A B) s) x) u
  unfolding f
  f_B s x u =
      rw (← length-values A.signals (take (regsA A B) s) x)
      (get_or-append-add (values A.signals (take (regsA A B) s) x) (values B.signals (drop (regsA A B) s) x) u _)

  pub length-polarity : length (polarity A B) ≡ total A B
  unfolding polarity
  length-polarity = length-f _ _

  pub bit-h : (s x : List Bool) (v : ℕ) → v < total A B
      → bit (h A B s x) v ≡ beq (bit (polarity A B) v) (bit (f A B s x) v)
  unfolding h
  bit-h s x v l =
      bit-pairwise beq (polarity A B) (f A B s x) v (length-polarity ∙ sym (length-f s x)) (omega (arith, length-polarity))

  -- ## States

  pub length-s0 : length (s0 A B) ≡ regs A B
  unfolding s0 regs
  length-s0 = simp (length-append, length-initial)

  pub length-after : (s x : List Bool) → length (after A B s x) ≡ regs A B
  unfolding after regs
  length-after s x = simp (length-append, length_taken)

  pub after_A : (s x : List Bool)
      → take (regsA A B) (after A B s x) ≡ taken A.signals (values A.signals (take (regsA A B) s) x)
  unfolding after regsA
  after_A s x = take_at (taken A.signals (values A.signals (take (regsA A B) s) x)) _ _ (length_taken A.signals _)

  pub after_B : (s x : List Bool)
      → drop (regsA A B) (after A B s x) ≡ taken B.signals (values B.signals (drop (regsA A B) s) x)
  unfolding after regsA
  after_B s x = drop_at (taken A.signals (values A.signals (take (regsA A B) s) x)) _ _ (length_taken A.signals _)

  -- ## Assignments: made of a state and two inputs, and taken apart

  pub size_of : (s x y : List Bool) → length s ≡ regs A B → length x ≡ ins A B → length y ≡ ins A B
      → length (s ++ (x ++ y)) ≡ variables A B
  unfolding variables
  size_of s x y p q o = simp length-append (omega arith)

  pub state_of_lem : (s x y : List Bool) → length s ≡ regs A B → state_of A B (s ++ (x ++ y)) ≡ s
  unfolding state_of
  state_of_lem s x y p = take_at s (x ++ y) _ p

  pub x_of_lem : (s x y : List Bool) → length s ≡ regs A B → length x ≡ ins A B → x_of A B (s ++ (x ++ y)) ≡ x
  unfolding x_of
  x_of_lem s x y p q = rw (drop_at s (x ++ y) _ p) (take_at x y _ q)

  pub y_of_lem : (s x y : List Bool) → length s ≡ regs A B → length x ≡ ins A B → y_of A B (s ++ (x ++ y)) ≡ y
  unfolding y_of
  y_of_lem s x y p q = rw (← p, drop-append-add s (x ++ y)) (drop_at x y _ q)

  pub length_state : (e : List Bool) → length e ≡ variables A B → length (state_of A B e) ≡ regs A B
  unfolding state_of variables
  length_state e l = simp length-take (omega arith)

  pub length_x : (e : List Bool) → length e ≡ variables A B → length (x_of A B e) ≡ ins A B
  unfolding x_of variables
  length_x e l = simp (length-take, length-drop) (omega arith)

  pub length_y : (e : List Bool) → length e ≡ variables A B → length (y_of A B e) ≡ ins A B
  unfolding y_of variables
  length_y e l = simp length-drop (omega arith)
