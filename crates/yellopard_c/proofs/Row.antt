-- A row after numbers were put at its front, as many as it has places for. Assumes nothing.
use mathlib.Core.Path.{◌≡◌}
use mathlib.Core.List.{List, ◌++◌}
use Prim.Native.Nat.{ℕ, min}
use native.Mathlib.Omega.{arith}
use lib.ListN.{length, take, drop, drop_of_length-le}
use lib.Seq.{take_all}
use Rattle.std.proofs.lemmas.Grind.{common_steps}
use Rattle.yellopard.specs.Calls.{row_after}

pub front_after : (numbers old : List ℕ) (k : ℕ) → k ≡ min (length numbers) (length old) → take k numbers ++ drop k old ≡ row_after numbers old
unfolding row_after
front_after numbers old k e = grind (arith, common_steps, take_all {A = ℕ}, drop_of_length-le {A = ℕ})
