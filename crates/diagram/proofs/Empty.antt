-- An emptied table is in order. Assumes nothing.
use mathlib.Core.Path.{◌≡◌, refl, sym, ap₂, ◌∙◌}
use mathlib.Core.Bool.{true, false}
use mathlib.Core.List.{List, ◌++◌}
use Prim.Native.Nat.{ℕ, zero, suc, ◌+◌, ◌*◌, ◌<◌}
use native.Mathlib.Omega.{arith}
use lib.ListN.{length, replicate, drop, get_or-append, length-append, length-replicate, length-drop, get_or-replicate}
use Rattle.meaning.specs.Numbers.{node_words}
use Rattle.meaning.specs.Room.{capacity, cleared}
use Rattle.tree.specs.Tree.{leaf, Reduced}
use Rattle.diagram.specs.Words.{BUCKET, OPERATION, STAMP, at, room_of, rest_of}
use Rattle.diagram.specs.Table.{tree_at, Good}
use Rattle.diagram.proofs.Trees.{tree-constant}
use Rattle.diagram.proofs.Codes.{code_some}

constants_once : (w : List ℕ) (a b : ℕ) → a < 2 → b < 2 → tree_at w 0 a ≡ tree_at w 0 b → a ≡ b
constants_once w zero zero la lb e = refl
constants_once w zero (suc zero) la lb e = let q : leaf false ≡ leaf true = sym (tree-constant w 0 0 la) ∙ e ∙ tree-constant w 0 1 lb in let x : ◌≡◌ {A = ℕ} 0 1 = cc in x
constants_once w (suc zero) zero la lb e = let q : leaf true ≡ leaf false = sym (tree-constant w 0 1 la) ∙ e ∙ tree-constant w 0 0 lb in let x : ◌≡◌ {A = ℕ} 1 0 = cc in x
constants_once w (suc zero) (suc zero) la lb e = refl
constants_once w zero (suc (suc b)) la lb e = absurd (omega arith)
constants_once w (suc zero) (suc (suc b)) la lb e = absurd (omega arith)
constants_once w (suc (suc a)) b la lb e = absurd (omega arith)

zeros_good : (w : List ℕ) → ((i k : ℕ) → i < room_of w → k < node_words → at w i k ≡ 0) → Good w 0
unfolding Reduced
zeros_good w z = record {
  fits = omega arith;
  low = λ i li. absurd (omega arith);
  high = λ i li. absurd (omega arith);
  reduced = λ a la. rw (tree-constant w 0 a (omega arith)) tt;
  once = λ a b la lb. constants_once w a b (omega arith) (omega arith);
  next = λ i li. absurd (omega arith);
  first = λ b lb. omega (arith, z b BUCKET lb (omega arith));
  chained = λ i li. absurd (omega arith);
  first_home = λ b lb i e. absurd (omega (arith, z b BUCKET lb (omega arith)));
  next_home = λ i li. absurd (omega arith);
  stamped = record { small = λ some. omega (arith, z 0 STAMP some (omega arith)); slots = λ i li. omega (arith, z i OPERATION li (omega arith)) };
  cached = λ i li op e. absurd (omega (arith, z i OPERATION li (omega arith), code_some op));
}

length-cleared : (w : List ℕ) → length (cleared w) ≡ length w
unfolding cleared capacity
length-cleared w = simp (length-append, length-replicate, length-drop) (omega arith)

pub cleared-room : (w : List ℕ) → room_of (cleared w) ≡ room_of w
cleared-room w = rw length-cleared

cleared_at : (w : List ℕ) (i k : ℕ) → i < room_of w → k < node_words → at (cleared w) i k ≡ 0
unfolding at cleared
cleared_at w i k li lk =
    let lt : node_words * i + k < node_words * room_of w = omega arith in
    get_or-append (replicate (node_words * room_of w) 0) (drop (node_words * room_of w) w) 0 (node_words * i + k) (simp length-replicate lt)
    ∙ get_or-replicate (node_words * room_of w) (node_words * i + k) 0 0 lt

pub cleared_good : (w : List ℕ) → Good (cleared w) 0
cleared_good w = zeros_good (cleared w) (λ i k li lk. cleared_at w i k (omega (arith, cleared-room w)) lk)

-- a table that grew is emptied to the same words
pub cleared_same : (w u : List ℕ) → room_of u ≡ room_of w → rest_of u ≡ rest_of w → cleared u ≡ cleared w
unfolding cleared rest_of
cleared_same w u e q = ap₂ (λ (n : ℕ) (r : List ℕ). replicate (node_words * n) 0 ++ r) e q
