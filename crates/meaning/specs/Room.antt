-- Room: the node count of a list of functions, the lists, and the table. Assumes nothing.
use Rattle.std.specs.Prelude.{ℕ, zero, suc, ◌*◌, ◌/◌, min, Bool, true, false, not, ◌&&◌, List, [], ◌∷◌, ◌++◌, map, length, drop, replicate}
use Rattle.std.specs.Bool.{beq}
use Rattle.meaning.specs.Numbers.{max_nodes, node_words}
use Rattle.meaning.specs.Basic.{keep, concat_map, pairwise, all_true}
use Rattle.meaning.specs.Sheet.{Sheet}
use Rattle.meaning.specs.Joint.{matches, variables, s0, f, h, after, state_of, x_of, y_of, h_now, h_next}

-- ## The node count

-- A function of Boolean variables by its values: with the leading variable 0, and with it 1.
pub data Fun : Type 0 where
  constant : Bool → Fun
  split : Fun → Fun → Fun

-- a list of functions of m variables, from their values at an assignment
unfoldable pub funs : ℕ → (List Bool → List Bool) → List Fun
funs zero fs = map constant (fs [])
funs (suc m) fs = pairwise split (funs m (λ e. fs (false ∷ e))) (funs m (λ e. fs (true ∷ e)))

unfoldable pub same_fun : Fun → Fun → Bool
same_fun (constant a) (constant b) = beq a b
same_fun (constant a) (split l r) = false
same_fun (split l r) (constant b) = false
same_fun (split l r) (split l' r') = elim (same_fun l l') [ true ↦ same_fun r r' | false ↦ false ]

unfoldable pub is_constant : Fun → Bool
is_constant (constant b) = true
is_constant (split l r) = elim (same_fun l r) [ true ↦ is_constant l | false ↦ false ]

-- The functions got by fixing none or some leading variables, each still a function of all the variables: with the leading
-- one fixed, what is left is the same for both of its values.
unfoldable pub fixings : Fun → List Fun
fixings (constant b) = constant b ∷ []
fixings (split l r) = split l r ∷ map (λ t. split t t) (fixings l ++ fixings r)

unfoldable pub among : Fun → List Fun → Bool
among t [] = false
among t (u ∷ us) = elim (same_fun t u) [ true ↦ true | false ↦ among t us ]

-- those seen, and each of a list that is different from all before it
unfoldable pub different : List Fun → List Fun → List Fun
different seen [] = seen
different seen (t ∷ ts) = elim (among t seen) [ true ↦ different seen ts | false ↦ different (t ∷ seen) ts ]

-- the number of different non-constant functions got from a list's by fixing none or some leading variables
unfoldable pub node_count : ℕ → (List Bool → List Bool) → ℕ
node_count m fs = length (different [] (keep (λ t. not (is_constant t)) (concat_map fixings (funs m fs))))

-- ## The lists, by their values at an assignment of all the variables

-- each of some equalities, and the product of those up to it
unfoldable pub running : Bool → List Bool → List Bool
running q [] = []
running q (b ∷ bs) = b ∷ (q && b) ∷ running (q && b) bs

module _ (A B : Sheet) where
  unfoldable pub start_list_of : List Bool → List Bool
  start_list_of e = f A B (s0 A B) (x_of A B e) ++ h A B (s0 A B) (x_of A B e)

  -- f, h, the equalities and products up to Q, f one tick on, the same normalised, Q times each normalised one
  unfoldable pub step_list_of : List ℕ → List Bool → List Bool
  step_list_of g e =
      let fs = f A B (state_of A B e) (x_of A B e) in
      let hs = h_now A B e in
      let fs' = f A B (after A B (state_of A B e) (x_of A B e)) (y_of A B e) in
      let hs' = h_next A B e in
      let q = all_true (matches g hs) in
      fs ++ (hs ++ (running true (matches g hs) ++ (fs' ++ (hs' ++ map (λ b. q && b) hs'))))

  unfoldable pub start_count : ℕ
  start_count = node_count (variables A B) start_list_of

  unfoldable pub step_count : List ℕ → ℕ
  step_count g = node_count (variables A B) (step_list_of g)

-- ## The table

-- N: the whole tens of words lent, at most 60,000
unfoldable pub capacity : ℕ → ℕ
capacity words = min (words / node_words) max_nodes

-- the table after a call: the first 10N words zero, the rest unchanged
unfoldable pub cleared : List ℕ → List ℕ
cleared table = replicate (node_words * capacity (length table)) 0 ++ drop (node_words * capacity (length table)) table
