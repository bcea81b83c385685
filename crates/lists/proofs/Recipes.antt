-- Each f of the joint list is made as its recipe says, as a function and as a tree. Assumes nothing.
use mathlib.Core.Path.{◌≡◌, refl, sym, ap, ◌∙◌}
use mathlib.Core.Bool.{Bool, false, not}
use mathlib.Core.List.{List}
use Prim.Native.Nat.{ℕ, ◌+◌, ◌<◌}
use native.Mathlib.Omega.{arith}
use lib.ListN.{length, take}
use lib.Seq.{length-take-le}
use Rattle.meaning.specs.Basic.{bit}
use Rattle.meaning.specs.Sheet.{Signal, input, register, inverter, gate, Sheet, inputs, registers}
use Rattle.meaning.specs.Tick.{gate_value, values, sources, taken}
use Rattle.meaning.specs.Joint.{ins, variables, f, after, state_of, x_of}
use Rattle.promises.specs.Proper.{Fits, Proper}
use Rattle.promises.proofs.Ticks.{length-sources}
use Rattle.tree.specs.Tree.{complement_tree, combine_tree}
use Rattle.tree.specs.Function.{tree_for}
use Rattle.tree.proofs.Function.{for_same, for_constant, for_combine, for_complement, for_variable}
use Rattle.lists.specs.Lists.{Moment, start, now, next, tree, state_at, inputs_at, f_at}
use Rattle.lists.specs.Recipes.{made, value_of, tree_of, nth_signal, Side, left, right, Compatible, sheet_on, state_on, signals_before, inputs_before, register_at, register_tree, recipe, recipe_tree}
use Rattle.lists.proofs.Elements.{map_at}
use Rattle.lists.proofs.Values.{made_same, proper_fits, value-at}
use Rattle.lists.proofs.Places.{input-place, register-place}
use Rattle.lists.proofs.Sides.{f_on, s0_on, after_on, state_variable, register_below, input_variable, input_below, inputs_on}

-- the tree of a signal that is made of functions is made of their trees
tree-made : (m : ℕ) (s : Signal) (x : List Bool → Bool) (r : Bool → ℕ → List Bool → Bool) (val : ℕ → List Bool → Bool)
    → tree_for m (λ e. value_of s (x e) (λ b t. r b t e) (λ a. val a e)) ≡ tree_of s (tree_for m x) (λ b t. tree_for m (r b t)) (λ a. tree_for m (val a))
unfolding made
tree-made m (input p) x r val = refl
tree-made m (register b t) x r val = refl
tree-made m (inverter a) x r val = sym (for_complement m (val a))
tree-made m (gate g a b) x r val = sym (for_combine (gate_value g) m (val a) (val b))

-- the sheet on either side is proper
sheet_proper : (A B : Sheet) → Compatible A B → (d : Side) → Proper (sheet_on A B d)
sheet_proper A B c left = c.left_proper
sheet_proper A B c right = c.right_proper

module _ (A B : Sheet) (c : Compatible A B) (d : Side) (v : ℕ) (l : v < length (sheet_on A B d).signals) where
  abbrev ss : List Signal
  ss = (sheet_on A B d).signals

  fits : Fits (length ss) (take v ss) (nth_signal ss v)
  fits = proper_fits (sheet_on A B d) (sheet_proper A B c d) v l

  input_in : (p : ℕ) → nth_signal ss v ≡ input p → inputs (take v ss) < ins A B
  input_in p e = omega (arith, input-place ss v p l e, inputs_on A B c d)

  source_in : (b : Bool) (s : ℕ) → nth_signal ss v ≡ register b s → s < length ss
  source_in b s q = let fit : Fits (length ss) (take v ss) (register b s) = rw q at fits in fit.1

  -- a register one tick on is its source now
  register-next : (s x : List Bool) (b : Bool) (t : ℕ) → nth_signal ss v ≡ register b t
      → bit (state_on A B d (after A B s x)) (registers (take v ss)) ≡ bit (f A B s x) (signals_before A B d + t)
  unfolding taken
  register-next s x b t q =
      let r = register-place ss v b t l q in
      rw after_on
      (map_at (bit (values ss (state_on A B d s) x)) (sources ss) (registers (take v ss)) 0 false (omega (arith, r.0, length-sources ss))
      ∙ ap (bit (values ss (state_on A B d s) x)) r.2
      ∙ sym (f_on A B d s x t (source_in b t q)))

  -- what a register holds at each moment
  register_is : (t : Moment) (e : List Bool) (b : Bool) (s : ℕ) → nth_signal ss v ≡ register b s
      → bit (state_on A B d (state_at A B t e)) (registers (take v ss)) ≡ register_at A B t d (registers (take v ss)) b s e
  unfolding state_at inputs_at register_at f_at
  register_is start e b s q = rw s0_on (register-place ss v b s l q).1
  register_is now e b s q = state_variable A B d e _ (register-place ss v b s l q).0
  register_is next e b s q = register-next (state_of A B e) (x_of A B e) b s q

  -- the function
  pub recipe_is : (t : Moment) (e : List Bool) → f_at A B t (signals_before A B d + v) e ≡ recipe A B t d v e
  unfolding f_at recipe
  recipe_is t e =
      f_on A B d (state_at A B t e) (inputs_at A B t e) v l
      ∙ value-at (sheet_on A B d) (sheet_proper A B c d) (state_on A B d (state_at A B t e)) (inputs_at A B t e) v l
      ∙ made_same not gate_value (length ss) (take v ss) (nth_signal ss v) fits
      (λ p q. input_variable A B t e (inputs (take v ss)) (input_in p q))
      (λ b s q. register_is t e b s q)
      (λ a la. sym (f_on A B d (state_at A B t e) (inputs_at A B t e) a (omega (arith, la, length-take-le v ss (omega arith)))))

  register-tree : (t : Moment) (b : Bool) (s : ℕ) → nth_signal ss v ≡ register b s
      → tree A B (register_at A B t d (registers (take v ss)) b s) ≡ register_tree A B t d (registers (take v ss)) b s
  unfolding register_at register_tree
  register-tree start b s q = for_constant (variables A B) b
  register-tree now b s q = for_variable (variables A B) _ (register_below A B d _ (register-place ss v b s l q).0)
  register-tree next b s q = refl

  -- the tree
  pub recipe-tree : (t : Moment) → tree A B (f_at A B t (signals_before A B d + v)) ≡ recipe_tree A B t d v
  unfolding recipe recipe_tree
  recipe-tree t =
      for_same (variables A B) _ _ (λ e _. recipe_is t e)
      ∙ tree-made (variables A B) (nth_signal ss v) (λ e. bit e (inputs_before A B t + inputs (take v ss)))
      (register_at A B t d (registers (take v ss)))
      (λ a. f_at A B t (signals_before A B d + a))
      ∙ made_same complement_tree (λ g. combine_tree (gate_value g)) (length ss) (take v ss) (nth_signal ss v) fits
      (λ p q. for_variable (variables A B) _ (input_below A B t _ (input_in p q)))
      (λ b s q. register-tree t b s q)
      (λ a la. refl)
