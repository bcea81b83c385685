-- One operation on each id of an array: what it is asked, and which tree it comes to. Assumes nothing.
use mathlib.Core.Path.{◌≡◌, refl, sym, ap, fun_ext, ◌∙◌}
use mathlib.Core.Bool.{Bool, true, false, not, beq}
use mathlib.Core.List.{List}
use Prim.Native.Nat.{ℕ, ◌<◌}
use lib.ListN.{length, get_or}
use lib.Dec.{eqb}
use Rattle.tree.specs.Function.{tree_for}
use Rattle.tree.proofs.Function.{for_complement}
use Rattle.diagram.specs.declared.Head.{Head}
use Rattle.diagram.specs.declared.Op.TheVariants.{And}
use Rattle.diagram.specs.Operation.{op_of}
use Rattle.diagram.specs.Table.{tree_at, combined}
use Rattle.diagram.specs.Contract.{Keeps, Ready, Under, CombineAsks, ComplementAsks}
use Rattle.fill.specs.Trees.{trees_at, tree_of_normal, normals, byte_normals, products}
use Rattle.fill.specs.Contract.{Known, NormalsAsks, ByteNormalsAsks, TimesAsks}
use Rattle.fill.proofs.Gains.{under_kept}

-- ## h of f

same_value : (a : Bool) → beq true a ≡ a
same_value true = refl
same_value false = refl

other_value : (a : Bool) → beq false a ≡ not a
other_value true = refl
other_value false = refl

-- the value of f, complemented for a flipped signal
pub normal_for : (plain : Bool) (m : ℕ) (f : List Bool → Bool) → tree_of_normal plain (tree_for m f) ≡ tree_for m (λ e. beq plain (f e))
unfolding tree_of_normal
normal_for true m f = ap (tree_for m) (fun_ext (λ e. sym (same_value (f e))))
normal_for false m f = for_complement m f ∙ ap (tree_for m) (fun_ext (λ e. sym (other_value (f e))))

-- ## In a table that has kept the ids

module _ {w : List ℕ} {n : ℕ} {u : List ℕ} {m : ℕ} (keeps : Keeps w n u m) {ids : List ℕ} {v : ℕ} (l : v < length ids) where
  module _ {left : ℕ} (known : Known w n ids left) where
    under_now : Under u m (get_or ids v 0) left
    under_now = under_kept keeps (known.each v l)

    tree-now : tree_at u m (get_or ids v 0) ≡ trees_at w n ids v
    unfolding trees_at
    tree-now = keeps.same _ (known.each v l).id

module _ {w : List ℕ} {a : Head} {u : List ℕ} {b : Head} (ready : Ready u b) (keeps : Keeps w a.used u b.used) {ids : List ℕ} {v : ℕ} (l : v < length ids) where
  pub normal_asks : {plain : List Bool} {places left : ℕ} → NormalsAsks w a plain ids places left → ComplementAsks u b (get_or ids v 0) left
  normal_asks asks = record { ready = ready; operand = under_now keeps l asks.known }

  pub byte_normal_asks : {plain : List ℕ} {places left : ℕ} → ByteNormalsAsks w a plain ids places left → ComplementAsks u b (get_or ids v 0) left
  byte_normal_asks asks = record { ready = ready; operand = under_now keeps l asks.known }

  pub times_asks : {q places left : ℕ} → TimesAsks w a q ids places left → CombineAsks u b q (get_or ids v 0) left
  times_asks asks = record { ready = ready; first = under_kept keeps asks.factor; second = under_now keeps l asks.known }

module _ {w : List ℕ} {a : Head} {u : List ℕ} {m : ℕ} (keeps : Keeps w a.used u m) {ids : List ℕ} {v : ℕ} (l : v < length ids) where
  pub normal_is : {plain : List Bool} {places left : ℕ} → NormalsAsks w a plain ids places left
      → tree_of_normal (get_or plain v false) (tree_at u m (get_or ids v 0)) ≡ normals w a.used plain ids v
  unfolding normals
  normal_is asks = rw (tree-now keeps l asks.known)

  pub byte_normal_is : {plain : List ℕ} {places left : ℕ} → ByteNormalsAsks w a plain ids places left
      → tree_of_normal (eqb (get_or plain v 0) 1) (tree_at u m (get_or ids v 0)) ≡ byte_normals w a.used plain ids v
  unfolding byte_normals
  byte_normal_is asks = rw (tree-now keeps l asks.known)

  pub times_is : {q places left : ℕ} → TimesAsks w a q ids places left → combined u m (op_of And) q (get_or ids v 0) ≡ products w a.used q ids v
  unfolding products op_of
  times_is {q} asks = rw (keeps.same q asks.factor.id, tree-now keeps l asks.known)
