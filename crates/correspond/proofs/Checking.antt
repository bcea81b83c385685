-- What check comes to on two sheets and a grouping, stage by stage. Assumes nothing.
use mathlib.Core.Path.{◌≡◌}
use mathlib.Core.List.{List}
use Prim.Native.Nat.{ℕ, ◌≤◌, ◌<◌, max}
use borrow.Author.Tests.{lt-ltb, le-ltb}
use Rattle.meaning.specs.Numbers.{NO_ROOM, no_file, START, STEP}
use Rattle.meaning.specs.Sheet.{Sheet}
use Rattle.meaning.specs.Joint.{total, start_fault, step_fault}
use Rattle.meaning.specs.Room.{start_count, step_count}
use Rattle.meaning.specs.Answer.{undecided, refusal, outputs_verdict, check_verdict}

module _ (N : ℕ) (A B : Sheet) (g : List ℕ) where
  pub out_at-start : N < start_count A B → check_verdict N A B g ≡ refusal NO_ROOM no_file 0
  unfolding check_verdict
  out_at-start l = rw (lt-ltb _ _ l)

  pub start-differs : start_count A B ≤ N → start_fault A B g < total A B → check_verdict N A B g ≡ undecided START (start_fault A B g) 0 (start_count A B)
  unfolding check_verdict
  start-differs s l = rw (le-ltb _ _ s, lt-ltb _ _ l)

  pub out_at-step : start_count A B ≤ N → total A B ≤ start_fault A B g → N < step_count A B g → check_verdict N A B g ≡ refusal NO_ROOM no_file 1
  unfolding check_verdict
  out_at-step s l t = rw (le-ltb _ _ s, le-ltb _ _ l, lt-ltb _ _ t)

  pub step-differs : start_count A B ≤ N → total A B ≤ start_fault A B g → step_count A B g ≤ N → step_fault A B g < total A B
      → check_verdict N A B g ≡ undecided STEP (step_fault A B g) 0 (max (start_count A B) (step_count A B g))
  unfolding check_verdict
  step-differs s l t m = rw (le-ltb _ _ s, le-ltb _ _ l, le-ltb _ _ t, lt-ltb _ _ m)

  pub both_hold : start_count A B ≤ N → total A B ≤ start_fault A B g → step_count A B g ≤ N → total A B ≤ step_fault A B g
      → check_verdict N A B g ≡ outputs_verdict A B g 0 (max (start_count A B) (step_count A B g))
  unfolding check_verdict
  both_hold s l t m = rw (le-ltb _ _ s, le-ltb _ _ l, le-ltb _ _ t, le-ltb _ _ m)
