-- Van Eijk's definitions as propositions about two sheets, with 'for all' over states and inputs. Assumes nothing.
use Rattle.std.specs.Prelude.{◌≡◌, Bool, List, [], ◌∷◌, ℕ, ◌<◌, length}
use Rattle.meaning.specs.Basic.{bit}
use Rattle.meaning.specs.Sheet.{Sheet, inputs}
use Rattle.meaning.specs.Tick.{outputs_of}
use Rattle.meaning.specs.Joint.{class, regs, ins, total, s0, h, after, outA, outB, polarity}

-- each element of a list has k elements itself: what k inputs are given at each tick of a run
abbrev pub Sized : ℕ → List (List Bool) → Type 0
Sized k [] = Unit {0}
Sized k (x ∷ xs) = (length x ≡ k) × Sized k xs

-- equal outputs at every tick for every input sequence, of any length
unfoldable pub SameOutputs : Sheet → Sheet → Type 0
SameOutputs A B = (xs : List (List Bool)) → Sized (inputs A.signals) xs → outputs_of A xs ≡ outputs_of B xs

module _ (A B : Sheet) where
  -- u and v are joint signals of one class of g
  pub record Together (g : List ℕ) (u v : ℕ) : Type 0 where
    pub left : u < total A B
    pub right : v < total A B
    pub classes : class g u ≡ class g v

  -- the first condition of Definition 2, for u and v: the same value in the initial state, for all inputs
  unfoldable pub StartEqual : ℕ → ℕ → Type 0
  StartEqual u v = (x : List Bool) → length x ≡ ins A B → bit (h A B (s0 A B) x) u ≡ bit (h A B (s0 A B) x) v

  -- Definition 1, the correspondence condition: all h in one class of g are equal at (s, x)
  unfoldable pub Conforms : List ℕ → List Bool → List Bool → Type 0
  Conforms g s x = (u v : ℕ) → Together g u v → bit (h A B s x) u ≡ bit (h A B s x) v

  -- the second condition of Definition 2, for u and v: equal one tick on, wherever the correspondence condition holds
  unfoldable pub StepEqual : List ℕ → ℕ → ℕ → Type 0
  StepEqual g u v =
      (s x y : List Bool) → length s ≡ regs A B → length x ≡ ins A B → length y ≡ ins A B → Conforms g s x
      → bit (h A B (after A B s x) y) u ≡ bit (h A B (after A B s x) y) v

  unfoldable pub Start : List ℕ → Type 0
  Start g = (u v : ℕ) → Together g u v → StartEqual u v

  unfoldable pub Step : List ℕ → Type 0
  Step g = (u v : ℕ) → Together g u v → StepEqual g u v

  -- Definition 2: g is a signal correspondence
  pub record Correspondence (g : List ℕ) : Type 0 where
    pub start : Start g
    pub step : Step g

  -- output i of A and output i of B are in one class and have the same polarity
  pub record PairedAt (g : List ℕ) (i : ℕ) : Type 0 where
    pub classes : class g (outA A B i) ≡ class g (outB A B i)
    pub polarities : bit (polarity A B) (outA A B i) ≡ bit (polarity A B) (outB A B i)

  unfoldable pub PairedOutputs : List ℕ → Type 0
  PairedOutputs g = (i : ℕ) → i < length A.outputs → PairedAt g i

  -- g is inside p: what is one class in g is one class in p
  unfoldable pub Inside : List ℕ → List ℕ → Type 0
  Inside g p = (u v : ℕ) → Together g u v → class p u ≡ class p v

  -- g is the coarsest signal correspondence inside p: any other is inside g
  pub record CoarsestInside (p g : List ℕ) : Type 0 where
    pub inside : Inside g p
    pub corresponds : Correspondence g
    pub coarsest : (other : List ℕ) → Inside other p → Correspondence other → Inside other g
