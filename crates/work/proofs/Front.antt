-- An array with a place for each joint signal, whose front is lent and comes back. Assumes nothing.
use mathlib.Core.Path.{◌≡◌, sym, ap, ◌∙◌}
use mathlib.Core.List.{List, ◌++◌}
use Prim.Native.Nat.{ℕ, ◌*◌, ◌≤◌}
use native.Mathlib.Omega.{arith}
use lib.ListN.{length, take, drop, replicate, length-append, length-replicate}
use lib.Seq.{length-take-le, take_at}
use Rattle.meaning.specs.Numbers.{max_signals}

abbrev pub zeros : List ℕ
zeros = replicate (2 * max_signals) 0

pub zeros_front : (n : ℕ) → n ≤ 2 * max_signals → length (take n zeros) ≡ n
zeros_front n l = length-take-le n zeros (omega (arith, length-replicate {A = ℕ} (2 * max_signals) 0))

-- the array, after its first n places were lent
abbrev pub after : ℕ → List ℕ → List ℕ
after n front = front ++ drop n zeros

module _ (n : ℕ) (front : List ℕ) (size : length front ≡ n) where
  pub after_front : take n (after n front) ≡ front
  after_front = take_at front (drop n zeros) n size

  pub after_few : n ≤ length (after n front)
  after_few = omega (arith, length-append front (drop n zeros))

  pub after_sized : n ≡ length (take n (after n front))
  after_sized = sym (ap length after_front ∙ size)
