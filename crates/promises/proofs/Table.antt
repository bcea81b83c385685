-- The lent table after a call: its first 10N words are zero, and the rest is unchanged. Assumes nothing.
use mathlib.Core.Path.{◌≡◌}
use mathlib.Core.List.{List}
use Prim.Native.Nat.{ℕ, ◌*◌, ◌≤◌}
use native.Mathlib.Omega.{arith}
use lib.ListN.{length, take, drop, replicate, length-append, length-drop, length-replicate}
use lib.Seq.{take_at, drop_at}
use Rattle.meaning.specs.Numbers.{node_words}
use Rattle.meaning.specs.Room.{capacity, cleared}

pub capacity_fits : (words : ℕ) → node_words * capacity words ≤ words
unfolding capacity
capacity_fits words = omega arith

module _ (table : List ℕ) where
  abbrev size : ℕ
  size = node_words * capacity (length table)

  pub cleared_front : take (node_words * capacity (length table)) (cleared table) ≡ replicate (node_words * capacity (length table)) 0
  unfolding cleared
  cleared_front = take_at (replicate size 0) (drop size table) size (length-replicate {A = ℕ} size 0)

  pub cleared_rest : drop (node_words * capacity (length table)) (cleared table) ≡ drop (node_words * capacity (length table)) table
  unfolding cleared
  cleared_rest = drop_at (replicate size 0) (drop size table) size (length-replicate {A = ℕ} size 0)

  pub cleared-length : length (cleared table) ≡ length table
  unfolding cleared
  cleared-length = simp (length-append, length-replicate, length-drop) (omega (arith, capacity_fits (length table)))
