-- The elements of a list that a function was applied to. Assumes nothing.
use mathlib.Core.Path.{◌≡◌, refl}
use mathlib.Core.List.{List, [], ◌∷◌, map}
use Prim.Native.Nat.{ℕ, zero, suc, ◌<◌}
use native.Mathlib.Omega.{arith}
use lib.ListN.{length, get_or}

pub map_at {ℓ κ} : {X : Type ℓ} {Y : Type κ} (f : X → Y) (l : List X) (i : ℕ) (x : X) (y : Y) → i < length l → get_or (map f l) i y ≡ f (get_or l i x)
map_at f [] i x y h = absurd (omega arith)
map_at f (a ∷ l) zero x y h = refl
map_at f (a ∷ l) (suc i) x y h = map_at f l i x y (omega arith)
