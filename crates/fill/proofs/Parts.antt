-- Parts of the trees of a list. Assumes nothing.
use mathlib.Core.Path.{◌≡◌, refl}
use mathlib.Core.List.{List, [], ◌∷◌, ◌++◌}
use mathlib.Core.Logic.{◌⊎◌, inl, inr, ⊎_elim}
use native.Mathlib.Omega.{arith}
use lib.ListN.{length}
use Rattle.tree.specs.Tree.{Tree, Sub}
use Rattle.fill.specs.Work.{PartOf, in_first, in_rest}

part_some : (s : Tree) (ts : List Tree) → PartOf s ts → length ts ≡ 0 → ⊥
part_some s [] q e = elim q [ ]
part_some s (t ∷ ts) (in_first q) e = omega arith
part_some s (t ∷ ts) (in_rest q) e = omega arith

pub part_none : {s : Tree} → PartOf s [] → ⊥
part_none {s} q = part_some s [] q refl

pub part_one : {s t : Tree} → PartOf s (t ∷ []) → Sub s t
part_one (in_first q) = q
part_one (in_rest q) = absurd (part_none q)

-- ## One list after another

pub part_left : {s : Tree} {ts : List Tree} (us : List Tree) → PartOf s ts → PartOf s (ts ++ us)
part_left us (in_first q) = in_first q
part_left us (in_rest q) = in_rest (part_left us q)

pub part_right : {s : Tree} (ts : List Tree) {us : List Tree} → PartOf s us → PartOf s (ts ++ us)
part_right [] q = q
part_right (t ∷ ts) q = in_rest (part_right ts q)

pub part_split : {s : Tree} (ts : List Tree) {us : List Tree} → PartOf s (ts ++ us) → PartOf s ts ⊎ PartOf s us
part_split [] q = inr q
part_split (t ∷ ts) (in_first q) = inl (in_first q)
part_split (t ∷ ts) (in_rest q) = ⊎_elim (λ l. inl (in_rest l)) (λ r. inr r) (part_split ts q)
