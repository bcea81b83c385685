-- Correspondence: polarity, groupings, Start, Step, paired outputs, and the groupings T that refining goes through. Assumes nothing.
use Rattle.std.specs.Prelude.{ℕ, zero, suc, ◌+◌, Bool, true, false, not, ◌&&◌, ◌||◌, List, [], ◌∷◌, ◌++◌, map, length, get_or, take, drop, replicate, eqb, ltb, if◌then◌else◌}
use Rattle.std.specs.Bool.{beq}
use Rattle.meaning.specs.Basic.{bit, up_from, least_from, same_list, keep, pairwise, all_true, every}
use Rattle.meaning.specs.Sheet.{Sheet, inputs, registers}
use Rattle.meaning.specs.Tick.{values, initial, taken}

-- ## Groupings: a class number for each signal

unfoldable pub class : List ℕ → ℕ → ℕ
class g v = get_or g v 0

-- the first member of v's class
unfoldable pub first : List ℕ → ℕ → ℕ
first g v = least_from 0 (length g) (λ u. eqb (class g u) (class g v))

-- For each v that is not first in its class, in order: "h_first equals h_v". hs are the values of all h.
unfoldable pub matches : List ℕ → List Bool → List Bool
matches g hs =
    map (λ v. beq (bit hs (first g v)) (bit hs v))
    (keep (λ v. ltb (first g v) v) (up_from 0 (length g)))

-- The number of v's class: the place among the first members so far of the one that v goes with, or the next number.
unfoldable pub place : (ℕ → ℕ → Bool) → ℕ → List ℕ → ℕ
place same v [] = 0
place same v (u ∷ us) = elim (same u v) [ true ↦ 0 | false ↦ suc (place same v us) ]

-- The classes of an equivalence, of k signals from v on, numbered in order of first member; firsts are the first members so far.
unfoldable pub number_from : (ℕ → ℕ → Bool) → ℕ → ℕ → List ℕ → List ℕ
number_from same v zero firsts = []
number_from same v (suc k) firsts =
    let c = place same v firsts in
    c ∷ number_from same (suc v) k (if ltb c (length firsts) then firsts else firsts ++ (v ∷ []))

unfoldable pub grouping : ℕ → (ℕ → ℕ → Bool) → List ℕ
grouping n same = number_from same 0 n []

-- ## Two sheets

module _ (A B : Sheet) where
  -- registers of A, of A and B; shared inputs; n, the length of the joint list; variables
  unfoldable pub regsA : ℕ
  regsA = registers A.signals

  unfoldable pub regs : ℕ
  regs = registers A.signals + registers B.signals

  unfoldable pub ins : ℕ
  ins = inputs A.signals

  unfoldable pub total : ℕ
  total = length A.signals + length B.signals

  unfoldable pub variables : ℕ
  variables = regs + ins + ins

  -- f(s, x): the values of the joint list, A's signals, then B's
  unfoldable pub f : List Bool → List Bool → List Bool
  f s x = values A.signals (take regsA s) x ++ values B.signals (drop regsA s) x

  -- the initial joint state
  unfoldable pub s0 : List Bool
  s0 = initial A.signals ++ initial B.signals

  -- the joint state after (s, x)
  unfoldable pub after : List Bool → List Bool → List Bool
  after s x =
      taken A.signals (values A.signals (take regsA s) x)
      ++ taken B.signals (values B.signals (drop regsA s) x)

  -- true for a plain signal, false for a flipped one
  unfoldable pub polarity : List Bool
  polarity = f s0 (replicate ins false)

  -- f, complemented for flipped signals
  unfoldable pub h : List Bool → List Bool → List Bool
  h s x = pairwise beq polarity (f s x)

  -- An assignment of the variables is a state s, then inputs x, then inputs y.
  unfoldable pub state_of : List Bool → List Bool
  state_of e = take regs e

  unfoldable pub x_of : List Bool → List Bool
  x_of e = take ins (drop regs e)

  unfoldable pub y_of : List Bool → List Bool
  y_of e = drop (regs + ins) e

  -- h at (s, x); h at the state after (s, x) under y
  unfoldable pub h_now : List Bool → List Bool
  h_now e = h (state_of e) (x_of e)

  unfoldable pub h_next : List Bool → List Bool
  h_next e = h (after (state_of e) (x_of e)) (y_of e)

  -- Q(s, x) of a grouping: all h in one class are equal
  unfoldable pub Q : List ℕ → List Bool → Bool
  Q g e = all_true (matches g (h_now e))

  -- Start, and Step, of two signals: one class, and h equal at s0 for all x; or one tick on, for all s, x, y with Q(s, x).
  unfoldable pub start_same : List ℕ → ℕ → ℕ → Bool
  start_same g u v =
      eqb (class g u) (class g v) && every ins (λ x. beq (bit (h s0 x) u) (bit (h s0 x) v))

  unfoldable pub step_same : List ℕ → ℕ → ℕ → Bool
  step_same g u v =
      eqb (class g u) (class g v)
      && every variables (λ e. not (Q g e) || beq (bit (h_next e) u) (bit (h_next e) v))

  -- the least signal that differs from its class's first; n where Start, or Step, holds
  unfoldable pub start_fault : List ℕ → ℕ
  start_fault g = least_from 0 total (λ v. not (start_same g (first g v) v))

  unfoldable pub step_fault : List ℕ → ℕ
  step_fault g = least_from 0 total (λ v. not (step_same g (first g v) v))

  -- the joint numbers of output i of A and of B
  unfoldable pub outA : ℕ → ℕ
  outA i = get_or (map (λ o. o.signal) A.outputs) i 0

  unfoldable pub outB : ℕ → ℕ
  outB i = length A.signals + get_or (map (λ o. o.signal) B.outputs) i 0

  -- in one class, and of the same polarity
  unfoldable pub paired : List ℕ → ℕ → Bool
  paired g i =
      eqb (class g (outA i)) (class g (outB i)) && beq (bit polarity (outA i)) (bit polarity (outB i))

  -- the least unpaired output; the number of outputs where all are paired
  unfoldable pub output_fault : List ℕ → ℕ
  output_fault g = least_from 0 (length A.outputs) (λ i. not (paired g i))

  -- T_0: the same proposed class and equal start functions. T_(i+1) splits T_i by the step rule under T_i.
  unfoldable pub T : List ℕ → ℕ → List ℕ
  T p zero = grouping total (start_same p)
  T p (suc i) = grouping total (step_same (T p i))

  -- the least i with T_i = T_(i+1)
  unfoldable pub rounds : List ℕ → ℕ
  rounds p = least_from 0 total (λ i. same_list (T p i) (T p (suc i)))
