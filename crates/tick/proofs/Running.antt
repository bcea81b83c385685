-- Laws of a run: what of the registers and inputs counts in a tick, and what holds at every tick of the loop. Assumes nothing.
use Prim.Native.Nat.{ℕ, suc, ◌+◌, ◌^◌, ◌<◌, ◌≤◌}
use mathlib.Core.Path.{◌≡◌, refl, sym, ap, ap₂, ◌∙◌}
use mathlib.Core.Bool.{Bool, false}
use mathlib.Core.List.{List, [], ◌∷◌, ◌++◌, map, tail, append_assoc, append-nil}
use native.Mathlib.Numerals.{add-one}
use native.Mathlib.Omega.{arith}
use lib.ListN.{length, get_or, drop, replicate, set, length-append, length-map, drop_of_length-le, get_or-map}
use lib.Seq.{drop-cons, set_at}
use Rattle.meaning.specs.Numbers.{max_inputs, max_signals}
use Rattle.meaning.specs.Basic.{bit, bits_of, from_bits}
use Rattle.meaning.specs.Sheet.{Sheet, Signal, Output, input, register, inverter, gate, inputs}
use Rattle.meaning.specs.Tick.{values_from, values, initial, sources, taken, shown, outputs_from, outputs_of}
use Rattle.tick.specs.declared.State.{State}
use Rattle.tick.specs.declared.Tick.{Tick}
use Rattle.tick.specs.Tick.{padded, state_of, tick_of, numbers_of}
use Rattle.tick.proofs.Padded.{bit-replicate, bit-padded}
use Rattle.tick.proofs.Bits.{bit_none, bits_within}

-- ## What counts in a tick

-- two lists with the same values at every place, false past their ends
abbrev pub Alike : List Bool → List Bool → Type 0
Alike vs ws = (i : ℕ) → bit vs i ≡ bit ws i

bit_tail : (vs : List Bool) (i : ℕ) → bit (tail vs) i ≡ bit vs (suc i)
bit_tail [] i = refl
bit_tail (v ∷ vs) i = refl

tail_alike : (vs ws : List Bool) → Alike vs ws → Alike (tail vs) (tail ws)
tail_alike vs ws same i = bit_tail vs i ∙ same (suc i) ∙ sym (bit_tail ws i)

values_from_alike : (ss : List Signal) (rs rs' xs xs' vs : List Bool) → Alike rs rs' → Alike xs xs'
    → values_from ss rs xs vs ≡ values_from ss rs' xs' vs
unfolding values_from
values_from_alike [] rs rs' xs xs' vs r x = refl
values_from_alike (input p ∷ ss) rs rs' xs xs' vs r x =
    rw (x 0) (values_from_alike ss rs rs' (tail xs) (tail xs') _ r (tail_alike xs xs' x))
values_from_alike (register i s ∷ ss) rs rs' xs xs' vs r x =
    rw (r 0) (values_from_alike ss (tail rs) (tail rs') xs xs' _ (tail_alike rs rs' r) x)
values_from_alike (inverter a ∷ ss) rs rs' xs xs' vs r x = values_from_alike ss rs rs' xs xs' _ r x
values_from_alike (gate g a b ∷ ss) rs rs' xs xs' vs r x = values_from_alike ss rs rs' xs xs' _ r x

pub values_alike : (ss : List Signal) (rs rs' xs xs' : List Bool) → Alike rs rs' → Alike xs xs' → values ss rs xs ≡ values ss rs' xs'
unfolding values
values_alike ss rs rs' xs xs' r x = values_from_alike ss rs rs' xs xs' [] r x

-- the values at the state that holds rs, with all inputs 0: those that polarity asks for, whatever the number of inputs
pub values_still : (ss : List Signal) (rs : List Bool) (inputs : ℕ) → values ss (state_of rs).held.items (bits_of max_inputs 0) ≡ values ss rs (replicate inputs false)
unfolding state_of
values_still ss rs inputs =
    values_alike ss rs rs (bits_of max_inputs 0) (replicate inputs false) (λ i. refl) (λ i. bit_none max_inputs i ∙ sym (bit-replicate inputs i))

map_same : {A B : Type 0} (f g : A → B) (l : List A) → ((x : A) → f x ≡ g x) → map f l ≡ map g l
map_same f g [] same = refl
map_same f g (x ∷ l) same = ap₂ ◌∷◌ (same x) (map_same f g l same)

shown_alike : (os : List Output) (vs ws : List Bool) → Alike vs ws → shown os vs ≡ shown os ws
unfolding shown
shown_alike os vs ws same = map_same (λ o. bit vs o.signal) (λ o. bit ws o.signal) os (λ o. same o.signal)

taken_alike : (ss : List Signal) (vs ws : List Bool) → Alike vs ws → taken ss vs ≡ taken ss ws
unfolding taken
taken_alike ss vs ws same = map_same (bit vs) (bit ws) (sources ss) same

-- a tick from values in places
pub tick_made : (s : Sheet) (rs xs v : List Bool) (number : ℕ) (next : State) → v ≡ padded max_signals (values s.signals rs xs)
    → number ≡ from_bits (shown s.outputs v) → next ≡ state_of (taken s.signals v)
    → record { shown = number; next = next } ≡ tick_of s rs xs
unfolding tick_of
tick_made s rs xs v number next stored is_number is-next =
    let vs = values s.signals rs xs in
    let same : Alike (padded max_signals vs) vs = bit-padded max_signals vs in
    rw (is_number, is-next, stored, shown_alike s.outputs (padded max_signals vs) vs same, taken_alike s.signals (padded max_signals vs) vs same)

pub tick_alike : (s : Sheet) (rs rs' xs xs' : List Bool) → Alike rs rs' → Alike xs xs' → tick_of s rs xs ≡ tick_of s rs' xs'
unfolding tick_of
tick_alike s rs rs' xs xs' r x = rw (values_alike s.signals rs rs' xs xs' r x)

-- ## The loop over the ticks

-- After t ticks: the registers hold the values `held`, the numbers `done` are stored, and the rest of the run goes on from there.
pub record Running (s : Sheet) (vectors old : List ℕ) (state : State) (result : List ℕ) (t : ℕ) : Type 0 where
  pub within : t ≤ length vectors
  pub held : List Bool
  pub holds : state ≡ state_of held
  pub done : List ℕ
  pub long : length done ≡ t
  pub stored : result ≡ done ++ drop t old
  pub left : numbers_of s vectors ≡ done ++ map from_bits (outputs_from s held (drop t (map (bits_of (inputs s.signals)) vectors)))

-- the inputs of the ticks from t on
vectors_from : (k : ℕ) (vectors : List ℕ) (t : ℕ) → t < length vectors
    → drop t (map (bits_of k) vectors) ≡ bits_of k (get_or vectors t 0) ∷ drop (suc t) (map (bits_of k) vectors)
vectors_from k vectors t inside =
    let all = map (bits_of k) vectors in
    drop-cons all t (bits_of k 0) (omega (arith, length-map vectors (bits_of k))) ∙ ap (λ (x : List Bool). x ∷ drop (suc t) all) (get_or-map (bits_of k) vectors t 0)

module _ (s : Sheet) (vectors old : List ℕ) where
  pub running-start : (state : State) → state ≡ state_of (initial s.signals) → Running s vectors old state old 0
  unfolding numbers_of outputs_of
  running-start state is = record {
    within = omega arith;
    held = initial s.signals;
    holds = is;
    done = [];
    long = refl;
    stored = refl;
    left = refl;
  }

  module _ (state : State) (result : List ℕ) (t : ℕ) (turn : Running s vectors old state result t) where
    held_alike : Alike state.held.items turn.held
    unfolding state_of
    held_alike i = rw turn.holds

    pub running_more : (tick : Tick) → t < length vectors → length vectors ≤ length old → inputs s.signals ≤ max_inputs
        → get_or vectors t 0 < 2 ^ inputs s.signals
        → tick ≡ tick_of s state.held.items (bits_of max_inputs (get_or vectors t 0))
        → Running s vectors old tick.next (set result t tick.shown) (t + 1)
    unfolding tick_of outputs_from
    running_more tick inside room few keeps is =
        let k = inputs s.signals in
        let x = bits_of k (get_or vectors t 0) in
        let within-inputs = bits_within k max_inputs (get_or vectors t 0) few keeps in
        let ticked : tick ≡ tick_of s turn.held x = is ∙ tick_alike s state.held.items turn.held (bits_of max_inputs (get_or vectors t 0)) x held_alike within-inputs in
        let number : tick.shown ≡ (tick_of s turn.held x).shown = ap (λ (y : Tick). y.shown) ticked in
        record {
          within = omega arith;
          held = taken s.signals (values s.signals turn.held x);
          holds = ap (λ (y : Tick). y.next) ticked;
          done = turn.done ++ (tick.shown ∷ []);
          long = simp length-append (omega (arith, turn.long));
          stored =
              rw (turn.stored, drop-cons old t 0 (omega arith), set_at turn.done (get_or old t 0) (drop (suc t) old) tick.shown t turn.long, add-one t)
              (sym (append_assoc turn.done (tick.shown ∷ []) (drop (suc t) old)));
          left = turn.left ∙ rw (vectors_from k vectors t inside, append_assoc turn.done (tick.shown ∷ []), number, add-one t);
        }

    pub running_end : length vectors ≤ t → result ≡ numbers_of s vectors ++ drop (length vectors) old
    unfolding outputs_from
    running_end all =
        let xs = map (bits_of (inputs s.signals)) vectors in
        let none : drop t xs ≡ [] = drop_of_length-le xs {i = t} (omega (arith, length-map vectors (bits_of (inputs s.signals)))) in
        let last : t ≡ length vectors = omega (arith, turn.within) in
        let whole : numbers_of s vectors ≡ turn.done = turn.left ∙ rw (none, append-nil) in
        turn.stored ∙ rw (whole, last)
