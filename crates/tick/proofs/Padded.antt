-- Laws of values in places. Assumes nothing.
use Prim.Native.Nat.{ℕ, zero, suc, ◌-◌, ◌<◌}
use mathlib.Core.Path.{◌≡◌, refl, sym}
use mathlib.Core.Bool.{Bool, false}
use mathlib.Core.List.{List, [], ◌∷◌, ◌++◌, append_assoc}
use native.Mathlib.Omega.{arith}
use lib.ListN.{length, set, replicate, length-append}
use lib.Seq.{set_at}
use Rattle.meaning.specs.Basic.{bit}
use Rattle.tick.specs.Tick.{padded}

-- the places after the last value hold what is read past the end of the list
pub bit-replicate : (k i : ℕ) → bit (replicate k false) i ≡ false
bit-replicate zero i = refl
bit-replicate (suc k) zero = refl
bit-replicate (suc k) (suc i) = bit-replicate k i

bit-append : (vs : List Bool) (k i : ℕ) → bit (vs ++ replicate k false) i ≡ bit vs i
bit-append [] k i = bit-replicate k i
bit-append (v ∷ vs) k zero = refl
bit-append (v ∷ vs) k (suc i) = bit-append vs k i

pub bit-padded : (places : ℕ) (vs : List Bool) (i : ℕ) → bit (padded places vs) i ≡ bit vs i
unfolding padded
bit-padded places vs i = bit-append vs (places - length vs) i

replicate_more : (k : ℕ) → 0 < k → replicate k false ≡ false ∷ replicate (k - 1) false
replicate_more zero some = absurd (omega arith)
replicate_more (suc k) some = let less : suc k - 1 ≡ k = omega arith in rw less

-- one value more, stored in the first free place
pub padded_more : (places : ℕ) (vs : List Bool) (i : ℕ) (b : Bool) → length vs ≡ i → i < places
    → set (padded places vs) i b ≡ padded places (vs ++ (b ∷ []))
unfolding padded
padded_more places vs i b long room =
    let left : places - length (vs ++ (b ∷ [])) ≡ places - length vs - 1 = simp length-append (omega arith) in
    rw (replicate_more (places - length vs) (omega arith), set_at vs false (replicate (places - length vs - 1) false) b i long, left)
    (sym (append_assoc vs (b ∷ []) _))
