-- What each side has of the joint list, of the joint state and of the variables. Assumes nothing.
use mathlib.Core.Path.{◌≡◌, refl, sym, ◌∙◌}
use mathlib.Core.Bool.{Bool, false}
use mathlib.Core.List.{List}
use mathlib.Core.Logic.{⊎_elim}
use Prim.Native.Nat.{ℕ, ◌+◌, ◌-◌, ◌<◌}
use native.Mathlib.Omega.{arith}
use native.Mathlib.Nat.{zero-add}
use lib.ListN.{length, take, drop, replicate}
use lib.Seq.{get_or-take, get_or-drop, take_at, drop_at}
use Rattle.meaning.specs.Basic.{bit}
use Rattle.meaning.specs.Sheet.{Sheet, inputs, registers}
use Rattle.meaning.specs.Tick.{values, initial, taken}
use Rattle.meaning.specs.Joint.{regsA, regs, ins, total, variables, f, s0, after, polarity, state_of, x_of, y_of}
use Rattle.promises.specs.Calls.{Files}
use Rattle.promises.proofs.Ticks.{length-initial}
use Rattle.promises.proofs.ReadProper.{read_proper}
use Rattle.promises.proofs.Joint.{f_A, f_B, after_A, after_B}
use Rattle.tree.proofs.Cases.{lt-or-le}
use Rattle.lists.specs.Lists.{Moment, start, now, next, inputs_at}
use Rattle.lists.specs.Recipes.{Side, left, right, Compatible, sheet_on, state_on, signals_before, registers_before, inputs_before}

module _ (A B : Sheet) where
  -- ## Values

  pub f_on : (d : Side) (s x : List Bool) (v : ℕ) → v < length (sheet_on A B d).signals
      → bit (f A B s x) (signals_before A B d + v) ≡ bit (values (sheet_on A B d).signals (state_on A B d s) x) v
  unfolding state_on
  f_on left s x v l = rw zero-add (f_A A B s x v l)
  f_on right s x v l = f_B A B s x v

  pub joint_below : (d : Side) (v : ℕ) → v < length (sheet_on A B d).signals → signals_before A B d + v < total A B
  unfolding total
  joint_below left v l = omega arith
  joint_below right v l = omega arith

  -- every joint signal is one of a side
  pub joint_side : (v : ℕ) → v < total A B → (d : Side) × (u : ℕ) × (u < length (sheet_on A B d).signals) × (v ≡ signals_before A B d + u)
  unfolding total
  joint_side v l = ⊎_elim (λ a. (left, v, a, sym (zero-add v))) (λ b. (right, v - length A.signals, omega arith, omega arith)) (lt-or-le v (length A.signals))

  -- ## States

  pub s0_on : (d : Side) → state_on A B d (s0 A B) ≡ initial (sheet_on A B d).signals
  unfolding state_on s0 regsA
  s0_on left = take_at (initial A.signals) _ _ (length-initial A.signals)
  s0_on right = drop_at (initial A.signals) _ _ (length-initial A.signals)

  pub after_on : (d : Side) (s x : List Bool)
      → state_on A B d (after A B s x) ≡ taken (sheet_on A B d).signals (values (sheet_on A B d).signals (state_on A B d s) x)
  unfolding state_on
  after_on left s x = after_A A B s x
  after_on right s x = after_B A B s x

  -- the polarities of a side are its own values in the initial state under zeros
  pub polarity_on : (d : Side) (v : ℕ) → v < length (sheet_on A B d).signals
      → bit (polarity A B) (signals_before A B d + v)
      ≡ bit (values (sheet_on A B d).signals (initial (sheet_on A B d).signals) (replicate (ins A B) false)) v
  unfolding polarity
  polarity_on d v l = f_on d (s0 A B) (replicate (ins A B) false) v l ∙ rw s0_on

  -- ## Variables

  pub state_variable : (d : Side) (e : List Bool) (r : ℕ) → r < registers (sheet_on A B d).signals
      → bit (state_on A B d (state_of A B e)) r ≡ bit e (registers_before A B d + r)
  unfolding state_on state_of regs regsA
  state_variable left e r l =
      rw zero-add (get_or-take (registers A.signals) (take (regs A B) e) r false l ∙ get_or-take (regs A B) e r false (omega arith))
  state_variable right e r l =
      get_or-drop (registers A.signals) (take (regs A B) e) r false ∙ get_or-take (regs A B) e (registers A.signals + r) false (omega arith)

  pub register_below : (d : Side) (r : ℕ) → r < registers (sheet_on A B d).signals → registers_before A B d + r < variables A B
  unfolding variables regs regsA
  register_below left r l = omega arith
  register_below right r l = omega arith

  pub input_variable : (t : Moment) (e : List Bool) (i : ℕ) → i < ins A B → bit (inputs_at A B t e) i ≡ bit e (inputs_before A B t + i)
  unfolding inputs_at x_of y_of
  input_variable start e i l = get_or-take (ins A B) (drop (regs A B) e) i false l ∙ get_or-drop (regs A B) e i false
  input_variable now e i l = get_or-take (ins A B) (drop (regs A B) e) i false l ∙ get_or-drop (regs A B) e i false
  input_variable next e i l = get_or-drop (regs A B + ins A B) e i false

  pub input_below : (t : Moment) (i : ℕ) → i < ins A B → inputs_before A B t + i < variables A B
  unfolding variables
  input_below start i l = omega arith
  input_below now i l = omega arith
  input_below next i l = omega arith

  -- both sides have as many inputs
  pub inputs_on : Compatible A B → (d : Side) → inputs (sheet_on A B d).signals ≡ ins A B
  unfolding ins
  inputs_on c left = refl
  inputs_on c right = sym c.like_inputs

-- the sheets of a call that goes on are compatible
pub files_compatible : {a b p : List ℕ} {A B : Sheet} {g : List ℕ} → Files a b p A B g → Compatible A B
files_compatible {a} {b} {A = A} {B = B} files = record {
  left_proper = read_proper a A files.read_a;
  right_proper = read_proper b B files.read_b;
  like_inputs = files.like_inputs;
}
