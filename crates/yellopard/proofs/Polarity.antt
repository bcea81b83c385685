-- The polarities of two sheets, put one sheet after the other, are those of their joint list. Assumes nothing.
use Rattle.std.specs.Prelude.{if◌then◌else◌}
use Rattle.std.specs.Int.{from_bool}
use mathlib.Core.Path.{◌≡◌, refl, ap, ◌∙◌}
use mathlib.Core.Bool.{Bool, true, false}
use mathlib.Core.List.{List, ◌++◌, map}
use Prim.Native.Nat.{ℕ, ◌+◌, ◌-◌, ◌*◌, ◌≤◌, ◌<◌}
use native.Mathlib.Omega.{arith}
use borrow.Rule.Slice.PartMut.{put_mid, post_of}
use lib.ListN.{length, get_or, take, drop, replicate, length-append, length-drop, length-map, get_or-append, get_or-map}
use lib.Seq.{length-take-le, take_at}
use Rattle.std.proofs.lemmas.List.{get_or-take, get_or-append_right}
use Rattle.arrayvec.specs.ArrayVec.{array_vec_len}
use Rattle.meaning.specs.Numbers.{max_inputs, max_signals}
use Rattle.meaning.specs.Basic.{bit, bits_of}
use Rattle.meaning.specs.Sheet as paper
use Rattle.meaning.specs.Tick.{values, initial}
use Rattle.meaning.specs.Joint.{ins, polarity}
use Rattle.sheet.specs.declared.Sheet.{Sheet}
use Rattle.sheet.specs.Stored.{sheet_of}
use Rattle.sheet.proofs.Whole.{length_signals}
use Rattle.tick.specs.declared.State.{State}
use Rattle.tick.specs.Tick.{padded, state_of}
use Rattle.tick.proofs.Padded.{bit-padded}
use Rattle.tick.proofs.Running.{values_still}
use Rattle.lists.specs.Recipes.{Side, left, right, sheet_on, signals_before}
use Rattle.lists.proofs.Sides.{joint_side, polarity_on}
use Rattle.work.specs.Lists as lists
use Rattle.work.specs.Lists.{Alike}
use Rattle.yellopard.specs.Calls.{PairAsks}

-- these are the values of a sheet's signals at tick 0 with all inputs 0, however many inputs there are
unfoldable pub Still : Sheet → List Bool → Type 0
Still s vs =
    let ss = (sheet_of s).signals in
    (inputs i : ℕ) → bit vs i ≡ bit (values ss (initial ss) (replicate inputs false)) i

pub still : (s : Sheet) (state : State) (vs : List Bool) → state ≡ state_of (initial (sheet_of s).signals)
    → vs ≡ padded max_signals (values (sheet_of s).signals state.held.items (bits_of max_inputs 0)) → Still s vs
unfolding Still
still s state vs starts is inputs i =
    let ss = (sheet_of s).signals in
    rw (is, bit-padded, starts, values_still ss (initial ss) inputs)

module _ (a b : Sheet) (asks : PairAsks a b) (in_a in_b : List Bool) (still-a : Still a in_a) (still-b : Still b in_b)
    (plain : List ℕ) (first : (v : ℕ) → v < array_vec_len a.signals → get_or plain v 0 ≡ (if bit in_a v then 1 else 0))
    (second : (v : ℕ) → v < array_vec_len b.signals → get_or plain (array_vec_len a.signals + v) 0 ≡ (if bit in_b v then 1 else 0)) where
  abbrev A : paper.Sheet
  A = sheet_of a

  abbrev B : paper.Sheet
  B = sheet_of b

  -- the polarities of a side are put where its signals stand
  plain_on : (d : Side) (v : ℕ) → v < length (sheet_on A B d).signals
      → get_or plain (signals_before A B d + v) 0 ≡ (if bit (polarity A B) (signals_before A B d + v) then 1 else 0)
  unfolding Still
  plain_on left v l =
      let inside : v < array_vec_len a.signals = omega (arith, length_signals a) in
      let at : 0 + v ≡ v = omega arith in
      rw (polarity_on A B left v l, ← still-a (ins A B) v, at) (first v inside)
  plain_on right v l =
      let inside : v < array_vec_len b.signals = omega (arith, length_signals b) in
      rw (polarity_on A B right v l, ← still-b (ins A B) v, length_signals a) (second v inside)

  pub pair_alike : length plain ≡ 2 * max_signals → Alike (record { a = a; b = b; plain = plain })
  unfolding lists.left lists.right lists.joint
  pair_alike long = record {
    whole_a = asks.whole_a;
    whole_b = asks.whole_b;
    shown_a = asks.shown_a;
    shown_b = asks.shown_b;
    inputs = asks.inputs;
    size = long;
    plain = λ v l. let on = joint_side A B v l in rw on.3 (plain_on on.0 on.1 on.2);
  }

-- ## The bytes of two lists of values, one put after the other in the first places of a list

byte_of : (b : Bool) → from_bool b ≡ (if b then 1 else 0)
byte_of true = refl
byte_of false = refl

-- the bytes of the first values of a list
module _ (x : ℕ) (vs : List Bool) {bytes : List ℕ} (is : bytes ≡ map from_bool (take x vs)) where
  length-bytes : x ≤ length vs → length bytes ≡ x
  length-bytes long = ap length is ∙ length-map (take x vs) from_bool ∙ length-take-le x vs long

  byte_at : (v : ℕ) → v < x → get_or bytes v 0 ≡ (if bit vs v then 1 else 0)
  byte_at v l =
      ap (λ (r : List ℕ). get_or r v 0) is ∙ get_or-map from_bool (take x vs) v false ∙ ap from_bool (get_or-take x vs v false l) ∙ byte_of (bit vs v)

module _ (x y : ℕ) (zs : List ℕ) (in_a in_b : List Bool) (fst snd : List ℕ) (few : x + y ≤ length zs) (long-a : x ≤ length in_a) (long-b : y ≤ length in_b)
    (fst-is : fst ≡ map from_bool (take x in_a)) (snd-is : snd ≡ map from_bool (take y in_b)) where
  long-fst : length fst ≡ x
  long-fst = length-bytes x in_a fst-is long-a

  long-snd : length snd ≡ y
  long-snd = length-bytes y in_b snd-is long-b

  abbrev half : List ℕ
  half = fst ++ drop x zs

  abbrev both : List ℕ
  both = put_mid x (x + y - x) half snd

  both_is : both ≡ fst ++ (snd ++ post_of x (x + y - x) half)
  both_is = rw (take_at fst (drop x zs) x long-fst) refl

  first_put : (v : ℕ) → v < x → get_or both v 0 ≡ (if bit in_a v then 1 else 0)
  first_put v l =
      ap (λ (r : List ℕ). get_or r v 0) both_is ∙ get_or-append fst (snd ++ post_of x (x + y - x) half) 0 v (omega (arith, long-fst)) ∙ byte_at x in_a fst-is v l

  second_put : (v : ℕ) → v < y → get_or both (x + v) 0 ≡ (if bit in_b v then 1 else 0)
  second_put v l =
      let at : x + v - x ≡ v = omega arith in
      ap (λ (r : List ℕ). get_or r (x + v) 0) both_is
      ∙ get_or-append_right fst (snd ++ post_of x (x + y - x) half) x (x + v) 0 long-fst (omega arith)
      ∙ rw at (get_or-append snd (post_of x (x + y - x) half) 0 v (omega (arith, long-snd)) ∙ byte_at y in_b snd-is v l)

  both_long : length both ≡ length zs
  both_long = rw both_is (simp (length-append, length-drop) (omega (arith, long-fst, long-snd, few)))

  -- so the first places are the bytes of the one list, the next those of the other, and no place was added
  pub laid : ((v : ℕ) → v < x → get_or both v 0 ≡ (if bit in_a v then 1 else 0))
      × ((v : ℕ) → v < y → get_or both (x + v) 0 ≡ (if bit in_b v then 1 else 0)) × (length both ≡ length zs)
  laid = (first_put, second_put, both_long)
