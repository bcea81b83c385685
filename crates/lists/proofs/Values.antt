-- The value of each signal of a sheet, from those of the signals before it. Assumes nothing.
use mathlib.Core.Path.{◌≡◌, refl, sym, ap, ap₂, ◌∙◌}
use mathlib.Core.Bool.{Bool, false, not}
use mathlib.Core.List.{List, [], ◌∷◌, ◌++◌, tail, append-nil}
use Prim.Native.Nat.{ℕ, zero, suc, ◌≤◌, ◌<◌}
use native.Mathlib.Omega.{arith}
use native.Mathlib.Nat.{add-zero}
use lib.ListN.{length, take, drop, length-append, take-append-drop, get_or-append}
use lib.Seq.{length-take-le, drop-nil, split_at, append_snoc, get_or-append_seam, get_or-drop}
use Rattle.meaning.specs.Basic.{bit, keep}
use Rattle.meaning.specs.Sheet.{Gate, Signal, input, register, inverter, gate, Sheet, signal_is_input, signal_is_register, inputs, registers}
use Rattle.meaning.specs.Tick.{gate_value, values_from, values}
use Rattle.promises.specs.Proper.{Fits, SignalsFit, Proper}
use Rattle.promises.proofs.Ticks.{length-values}
use Rattle.lists.specs.Recipes.{made, value_of, nth_signal}

-- ## More signals, more values

drop_tail : (n : ℕ) (xs : List Bool) → drop n (tail xs) ≡ drop (suc n) xs
drop_tail n [] = drop-nil n
drop_tail n (x ∷ xs) = refl

values_from-append : (ss more : List Signal) (rs xs vs : List Bool)
    → values_from (ss ++ more) rs xs vs ≡ values_from more (drop (registers ss) rs) (drop (inputs ss) xs) (values_from ss rs xs vs)
unfolding values_from registers inputs keep signal_is_register signal_is_input
values_from-append [] more rs xs vs = refl
values_from-append (input p ∷ ss) more rs xs vs = values_from-append ss more rs (tail xs) _ ∙ rw drop_tail
values_from-append (register b s ∷ ss) more rs xs vs = values_from-append ss more (tail rs) xs _ ∙ rw drop_tail
values_from-append (inverter a ∷ ss) more rs xs vs = values_from-append ss more rs xs _
values_from-append (gate g a b ∷ ss) more rs xs vs = values_from-append ss more rs xs _

-- a signal adds its value to those that are there
values_from_more : (s : Signal) (ss : List Signal) (rs xs vs : List Bool)
    → (rs' : List Bool) × (xs' : List Bool)
    × (values_from (s ∷ ss) rs xs vs ≡ values_from ss rs' xs' (vs ++ (value_of s (bit xs 0) (λ b t. bit rs 0) (bit vs) ∷ [])))
unfolding values_from made
values_from_more (input p) ss rs xs vs = (rs, tail xs, refl)
values_from_more (register b s) ss rs xs vs = (tail rs, xs, refl)
values_from_more (inverter a) ss rs xs vs = (rs, xs, refl)
values_from_more (gate g a b) ss rs xs vs = (rs, xs, refl)

-- those stay
values_from_old : (ss : List Signal) (rs xs vs : List Bool) (i : ℕ) → i < length vs → bit (values_from ss rs xs vs) i ≡ bit vs i
values_from_old [] rs xs vs i l = unfold values_from in refl
values_from_old (s ∷ ss) rs xs vs i l =
    let b = value_of s (bit xs 0) (λ b t. bit rs 0) (bit vs) in
    let o = values_from_more s ss rs xs vs in
    ap (λ (ws : List Bool). bit ws i) o.2
    ∙ values_from_old ss o.0 o.1 (vs ++ (b ∷ [])) i (omega (arith, length-append vs (b ∷ [])))
    ∙ get_or-append vs (b ∷ []) false i l

values_from-next : (s : Signal) (ss : List Signal) (rs xs vs : List Bool)
    → bit (values_from (s ∷ ss) rs xs vs) (length vs) ≡ value_of s (bit xs 0) (λ b t. bit rs 0) (bit vs)
values_from-next s ss rs xs vs =
    let b = value_of s (bit xs 0) (λ b t. bit rs 0) (bit vs) in
    let o = values_from_more s ss rs xs vs in
    ap (λ (ws : List Bool). bit ws (length vs)) o.2
    ∙ values_from_old ss o.0 o.1 (vs ++ (b ∷ [])) (length vs) (omega (arith, length-append vs (b ∷ [])))
    ∙ get_or-append_seam vs b [] false

-- ## Signal v of a sheet

drop-first : (n : ℕ) (xs : List Bool) → bit (drop n xs) 0 ≡ bit xs n
drop-first n xs = get_or-drop n xs 0 false ∙ ap (bit xs) (add-zero n)

-- an input takes the next of xs and a register the next of rs; the others follow from the signals before them
values-split : (before : List Signal) (s : Signal) (more : List Signal) (rs xs : List Bool)
    → bit (values (before ++ (s ∷ more)) rs xs) (length before)
    ≡ value_of s (bit xs (inputs before)) (λ b t. bit rs (registers before)) (bit (values before rs xs))
unfolding values
values-split before s more rs xs =
    rw (values_from-append before (s ∷ more) rs xs [], ← length-values before rs xs)
    (values_from-next s more (drop (registers before) rs) (drop (inputs before) xs) (values before rs xs) ∙ simp drop-first)

module _ (ss : List Signal) (rs xs : List Bool) (v : ℕ) where
  -- the values of the signals before v are those that they have in the whole
  pub values-take : v ≤ length ss → (a : ℕ) → a < v → bit (values (take v ss) rs xs) a ≡ bit (values ss rs xs) a
  values-take l a la =
      sym (values_from_old (drop v ss) (drop (registers (take v ss)) rs) (drop (inputs (take v ss)) xs) (values (take v ss) rs xs) a
      (omega (arith, length-values (take v ss) rs xs, length-take-le v ss l)))
      ∙ ap (λ (ws : List Bool). bit ws a) whole
    where
      whole : values_from (drop v ss) (drop (registers (take v ss)) rs) (drop (inputs (take v ss)) xs) (values (take v ss) rs xs) ≡ values ss rs xs
      whole = unfold values in (sym (values_from-append (take v ss) (drop v ss) rs xs []) ∙ rw take-append-drop)

  pub values-next : v < length ss
      → bit (values ss rs xs) v
      ≡ value_of (nth_signal ss v) (bit xs (inputs (take v ss))) (λ b t. bit rs (registers (take v ss))) (bit (values (take v ss) rs xs))
  values-next l =
      ap₂ (λ (l : List Signal) (n : ℕ). bit (values l rs xs) n) (split_at ss v (input 0) l) (sym (length-take-le v ss (omega arith)))
      ∙ values-split (take v ss) (nth_signal ss v) (drop (suc v) ss) rs xs

-- ## Lower signals are all that counts

-- A signal that fits after those before it is made of what an input, or a register, of its place is, or of signals before it.
module _ {ℓ} {X : Type ℓ} (flip : X → X) (join : Gate → X → X → X) (n : ℕ) (before : List Signal) where
  pub made_same : (s : Signal) {x x' : X} {r r' : Bool → ℕ → X} {val val' : ℕ → X} → Fits n before s
      → ((p : ℕ) → s ≡ input p → x ≡ x') → ((b : Bool) (t : ℕ) → s ≡ register b t → r b t ≡ r' b t)
      → ((a : ℕ) → a < length before → val a ≡ val' a)
      → made flip join s x r val ≡ made flip join s x' r' val'
  unfolding made
  made_same (input p) fit hx hr hv = hx p refl
  made_same (register b t) fit hx hr hv = hr b t refl
  made_same (inverter a) fit hx hr hv = ap flip (hv a fit)
  made_same (gate g a b) fit hx hr hv = ap₂ (join g) (hv a fit.0) (hv b fit.1)

fits_at : (n : ℕ) (before ss : List Signal) → SignalsFit n before ss → (v : ℕ) → v < length ss → Fits n (before ++ take v ss) (nth_signal ss v)
fits_at n before [] fit v l = absurd (omega arith)
fits_at n before (s ∷ ss) fit zero l = rw append-nil fit.1
fits_at n before (s ∷ ss) fit (suc v) l = rw append_snoc at (fits_at n (before ++ (s ∷ [])) ss fit.2 v (omega arith))

pub proper_fits : (S : Sheet) → Proper S → (v : ℕ) → v < length S.signals → Fits (length S.signals) (take v S.signals) (nth_signal S.signals v)
proper_fits S p v l = fits_at (length S.signals) [] S.signals p.signals v l

-- the value of signal v from the values of lower ones
pub value-at : (S : Sheet) → Proper S → (rs xs : List Bool) (v : ℕ) → v < length S.signals
    → bit (values S.signals rs xs) v
    ≡ value_of (nth_signal S.signals v) (bit xs (inputs (take v S.signals))) (λ b t. bit rs (registers (take v S.signals))) (bit (values S.signals rs xs))
value-at S p rs xs v l =
    let ss = S.signals in
    values-next ss rs xs v l
    ∙ made_same not gate_value (length ss) (take v ss) (nth_signal ss v) (proper_fits S p v l) (λ p e. refl) (λ b t e. refl)
    (λ a la. values-take ss rs xs v (omega arith) a (omega (arith, length-take-le v ss (omega arith))))
