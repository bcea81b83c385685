-- The start list and the step list are of the functions named, and of no others. Assumes nothing.
use mathlib.Core.Path.{◌≡◌, refl, sym, ◌∙◌, subst, fun_ext}
use mathlib.Core.Bool.{Bool, false, ◌&&◌, beq}
use mathlib.Core.List.{List, map}
use mathlib.Core.Logic.{◌⊎◌, inl, inr, ⊎_elim}
use Prim.Native.Nat.{ℕ, ◌+◌, ◌<◌}
use native.Mathlib.Omega.{arith}
use lib.ListN.{length, length-map}
use Rattle.meaning.specs.Sheet.{Sheet}
use Rattle.meaning.specs.Joint.{total, variables, polarity, f, h, h_now, h_next, Q}
use Rattle.meaning.specs.Room.{start_list_of, step_list_of, start_count, step_count}
use Rattle.laws.proofs.Basic.{length-pairwise}
use Rattle.promises.proofs.Joint.{length-f, length-polarity}
use Rattle.tree.specs.Function.{column, Columns, Part}
use Rattle.tree.specs.Count.{Counted}
use Rattle.tree.proofs.Columns.{columns_append, columns_as}
use Rattle.tree.proofs.NodeCount.{node_count_lem}
use Rattle.lists.specs.Lists.{Moment, start, now, next, state_at, inputs_at, f_at, h_at, timesQ, StartFun, f-start, h-start, StepFun, f-now, h-now, equality, product, f-next, h-next, times_Q}
use Rattle.lists.proofs.Elements.{map_at}
use Rattle.lists.proofs.Products.{Run, running_columns}

-- ## A function for each joint signal

-- one of the functions F of the first k signals
abbrev Family : (ℕ → List Bool → Bool) → ℕ → (List Bool → Bool) → Type 0
Family F k x = (v : ℕ) × (v < k) × (F v ≡ x)

columns_family : (F : ℕ → List Bool → Bool) (row : List Bool → List Bool) (k : ℕ) → ((e : List Bool) → length (row e) ≡ k)
    → ((v : ℕ) → v < k → column row v ≡ F v) → Columns row k (Family F k)
columns_family F row k sized is = record { sized = sized; each = λ v l. (v, l, sym (is v l)); all = λ x p. (p.0, p.1, is p.0 p.1 ∙ p.2) }

module _ (A B : Sheet) where
  pub length-h : (s x : List Bool) → length (h A B s x) ≡ total A B
  unfolding h
  length-h s x = length-pairwise beq (polarity A B) (f A B s x) (length-polarity A B ∙ sym (length-f A B s x)) ∙ length-polarity A B

  f_row : Moment → List Bool → List Bool
  f_row t e = f A B (state_at A B t e) (inputs_at A B t e)

  h_row : Moment → List Bool → List Bool
  h_row t e = h A B (state_at A B t e) (inputs_at A B t e)

  f_columns : (t : Moment) → Columns (f_row t) (total A B) (Family (f_at A B t) (total A B))
  unfolding f_row f_at
  f_columns t = columns_family (f_at A B t) (f_row t) (total A B) (λ e. length-f A B _ _) (λ v l. refl)

  h_columns : (t : Moment) → Columns (h_row t) (total A B) (Family (h_at A B t) (total A B))
  unfolding h_row h_at
  h_columns t = columns_family (h_at A B t) (h_row t) (total A B) (λ e. length-h _ _) (λ v l. refl)

  -- ## The start list

  start_of : (x : List Bool → Bool) → Family (f_at A B start) (total A B) x ⊎ Family (h_at A B start) (total A B) x → StartFun A B x
  start_of x p = ⊎_elim (λ a. subst (StartFun A B) a.2 (f-start a.0 a.1)) (λ a. subst (StartFun A B) a.2 (h-start a.0 a.1)) p

  of_start : (x : List Bool → Bool) → StartFun A B x → Family (f_at A B start) (total A B) x ⊎ Family (h_at A B start) (total A B) x
  of_start x (f-start v l) = inl (v, l, refl)
  of_start x (h-start v l) = inr (v, l, refl)

  pub start_columns : Columns (start_list_of A B) (total A B + total A B) (StartFun A B)
  unfolding start_list_of f_row h_row state_at inputs_at
  start_columns = columns_as _ _ _ _ start_of of_start (columns_append _ _ _ _ _ _ (f_columns start) (h_columns start))

  -- the start list counts the different non-constant parts of its functions' trees
  pub start_count_lem : Counted (Part (variables A B) (StartFun A B)) (start_count A B)
  unfolding start_count
  start_count_lem = node_count_lem (variables A B) _ (start_list_of A B) (StartFun A B) start_columns

  -- ## The step list of a grouping

  module _ (g : List ℕ) (known : length g ≡ total A B) where
    times_row : List Bool → List Bool
    times_row e = map (λ b. Q A B g e && b) (h_row next e)

    times_columns : Columns times_row (total A B) (Family (timesQ A B g) (total A B))
    unfolding times_row h_row timesQ h_at
    times_columns = columns_family (timesQ A B g) times_row (total A B)
        (λ e. length-map (h_row next e) _ ∙ length-h _ _)
        (λ v l. fun_ext (λ e. map_at (λ b. Q A B g e && b) (h_row next e) v false false (omega (arith, length-h (state_at A B next e) (inputs_at A B next e)))))

    Parts : (List Bool → Bool) → Type 0
    Parts x =
        Family (f_at A B now) (total A B) x ⊎ (Family (h_at A B now) (total A B) x ⊎ (Run A B g 0 (length g) x
        ⊎ (Family (f_at A B next) (total A B) x ⊎ (Family (h_at A B next) (total A B) x ⊎ Family (timesQ A B g) (total A B) x))))

    step_of : (x : List Bool → Bool) → Parts x → StepFun A B g x
    unfolding Parts
    step_of x (inl a) = subst (StepFun A B g) a.2 (f-now a.0 a.1)
    step_of x (inr (inl a)) = subst (StepFun A B g) a.2 (h-now a.0 a.1)
    step_of x (inr (inr (inl (v, _, l, t, inl e)))) = subst (StepFun A B g) (sym e) (equality v (omega arith) t)
    step_of x (inr (inr (inl (v, _, l, t, inr e)))) = subst (StepFun A B g) (sym e) (product v (omega arith) t)
    step_of x (inr (inr (inr (inl a)))) = subst (StepFun A B g) a.2 (f-next a.0 a.1)
    step_of x (inr (inr (inr (inr (inl a))))) = subst (StepFun A B g) a.2 (h-next a.0 a.1)
    step_of x (inr (inr (inr (inr (inr a))))) = subst (StepFun A B g) a.2 (times_Q a.0 a.1)

    of_step : (x : List Bool → Bool) → StepFun A B g x → Parts x
    unfolding Parts
    of_step x (f-now v l) = inl (v, l, refl)
    of_step x (h-now v l) = inr (inl (v, l, refl))
    of_step x (equality v l t) = inr (inr (inl (v, omega arith, omega arith, t, inl refl)))
    of_step x (product v l t) = inr (inr (inl (v, omega arith, omega arith, t, inr refl)))
    of_step x (f-next v l) = inr (inr (inr (inl (v, l, refl))))
    of_step x (h-next v l) = inr (inr (inr (inr (inl (v, l, refl)))))
    of_step x (times_Q v l) = inr (inr (inr (inr (inr (v, l, refl)))))

    pub step_columns : (n : ℕ) × Columns (step_list_of A B g) n (StepFun A B g)
    unfolding step_list_of f_row h_row times_row state_at inputs_at h_now h_next Q Parts
    step_columns =
        let r = running_columns A B g in (
          _,
          columns_as _ _ _ _ step_of of_step
              (columns_append _ _ _ _ _ _ (f_columns now)
              (columns_append _ _ _ _ _ _ (h_columns now)
              (columns_append _ _ _ _ _ _ r.1
              (columns_append _ _ _ _ _ _ (f_columns next)
              (columns_append _ _ _ _ _ _ (h_columns next) times_columns))))),
        )

    pub step_count_lem : Counted (Part (variables A B) (StepFun A B g)) (step_count A B g)
    unfolding step_count
    step_count_lem = node_count_lem (variables A B) _ (step_list_of A B g) (StepFun A B g) step_columns.1
