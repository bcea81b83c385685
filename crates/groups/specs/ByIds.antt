-- The classes of a grouping told apart by ids, a number for each signal. Assumes nothing.
use Rattle.std.specs.Prelude.{◌≡◌, ◌↔◌, Bool, not, ◌&&◌, List, ℕ, ◌<◌, length, get_or, eqb}
use Rattle.meaning.specs.Basic.{least_from}
use Rattle.meaning.specs.Joint.{class, first, grouping}

-- v's id differs from that of the first of its class
unfoldable pub differs : List ℕ → List ℕ → ℕ → Bool
differs g ids v = not (eqb (get_or ids (first g v) 0) (get_or ids v 0))

-- the least signal that differs; n where none does
unfoldable pub fault_by : List ℕ → List ℕ → ℕ
fault_by g ids = least_from 0 (length g) (differs g ids)

-- one class, and one id
unfoldable pub same_by : List ℕ → List ℕ → ℕ → ℕ → Bool
same_by g ids u v = eqb (class g u) (class g v) && eqb (get_or ids u 0) (get_or ids v 0)

-- the first that has v's class and id
unfoldable pub first_by : List ℕ → List ℕ → ℕ → ℕ
first_by g ids v = least_from 0 (length g) (λ u. same_by g ids u v)

-- the classes split by id, numbered from 0 in order of first member
unfoldable pub split_by : List ℕ → List ℕ → List ℕ
split_by g ids = grouping (length g) (same_by g ids)

-- within the classes of g, ids are equal exactly where signals are equal in a given sense
unfoldable pub Tells : List ℕ → List ℕ → (ℕ → ℕ → Type 0) → Type 0
Tells g ids Equal =
    (u v : ℕ) → u < length g → v < length g → class g u ≡ class g v → (get_or ids u 0 ≡ get_or ids v 0) ↔ Equal u v
