-- Every sheet that is read is proper: within the limits, with operands before gates, and naming only signals that it has. Assumes nothing.
use mathlib.Core.Path.{◌≡◌, refl, sym, subst}
use mathlib.Core.List.{List, [], ◌∷◌, ◌++◌, map, append-nil, append_assoc}
use Prim.Native.Nat.{ℕ, zero, suc, ◌≤◌, ◌<◌}
use native.Mathlib.Omega.{arith}
use lib.ListN.{length, get_or, length-append}
use lib.Dec.{eqb}
use Rattle.meaning.specs.Numbers.{max_signals, max_outputs}
use Rattle.meaning.specs.Sheet.{Signal, input, register, inverter, gate, Output, Sheet, value, Part, part_of_nothing, signal_of, add, reading_of_sheet}
use Rattle.promises.specs.Proper.{Fits, SignalsFit, OutputsFit, Proper, OutputsName}
use Rattle.promises.specs.Reading.{Sound, Comes, begin, onward, NamedBelow}
use Rattle.promises.proofs.Records.{gate-least, gate-greatest, gate-add, Kind, is_input, is_register, is_inverter, is_gate, is_output, kind_of}
use Rattle.promises.proofs.SheetReading.{accepted_exactly}

-- ## One signal, output or naming more

signals_more : (n : ℕ) (before ss : List Signal) (s : Signal) → SignalsFit n before ss
    → length (before ++ ss) < max_signals → Fits n (before ++ ss) s → SignalsFit n before (ss ++ (s ∷ []))
signals_more n before [] s f l g = (rw append-nil at l, subst (λ (l : List Signal). Fits n l s) (append-nil before) g, tt)
signals_more n before (x ∷ ss) s f l g = (
  f.0,
  f.1,
  signals_more n (before ++ (x ∷ [])) ss s f.2 (rw append_assoc l) (subst (λ (l : List Signal). Fits n l s) (sym (append_assoc before (x ∷ []) ss)) g),
)

outputs_more : (n : ℕ) (os : List Output) (o : Output) → OutputsFit n os → o.signal < n → OutputsFit n (os ++ (o ∷ []))
outputs_more n [] o f l = (l, tt)
outputs_more n (x ∷ os) o f l = (f.0, outputs_more n os o f.1 l)

named_less : (n : ℕ) (naming : List (ℕ × ℕ)) (at s : ℕ) → NamedBelow n (naming ++ ((at, s) ∷ [])) → NamedBelow n naming × (s < n)
named_less n [] at s b = (tt, b.0)
named_less n (x ∷ naming) at s b = let r = named_less n naming at s b.1 in ((b.0, r.0), r.1)

-- ## The part read so far is proper, as far as its names are

record ProperSoFar (p : Part) : Type 0 where
  signals : (n : ℕ) → NamedBelow n p.naming → SignalsFit n [] p.signals
  outputs : (n : ℕ) → NamedBelow n p.naming → OutputsFit n p.outputs
  few : length p.outputs ≤ max_outputs

module _ (p : Part) (at : ℕ) (rest : List ℕ) (i : ProperSoFar p) where
  -- a signal that names no later one
  plain : (s : Signal) → length p.signals < max_signals → ((n : ℕ) → Fits n p.signals s)
      → ProperSoFar (record { signals = p.signals ++ (s ∷ []); outputs = p.outputs; naming = p.naming })
  plain s l f = record {
    signals = λ n b. signals_more n [] p.signals s (i.signals n b) l (f n);
    outputs = i.outputs;
    few = i.few;
  }

  next : (k : ℕ) → Kind k → Sound p k rest → ProperSoFar (add p at k (get_or rest 0 0) (get_or rest 1 0))
  unfolding add signal_of
  next k is_input s = plain (input (get_or rest 0 0)) (s.few.signal (omega arith)) (λ n. s.few.input refl)
  next k is_register s = record {
    signals = λ n b.
        let r = named_less n p.naming at (get_or rest 1 0) b in
        signals_more n [] p.signals (register (eqb (get_or rest 0 0) 1) (get_or rest 1 0)) (i.signals n r.0)
        (s.few.signal (omega arith)) (s.few.register refl, r.1);
    outputs = λ n b. i.outputs n (named_less n p.naming at (get_or rest 1 0) b).0;
    few = i.few;
  }
  next k is_inverter s = plain (inverter (get_or rest 0 0)) (s.few.signal (omega arith)) (λ n. s.lower.one (omega arith) (omega arith))
  next k (is_gate g) s =
      let least = gate-least g in
      let greatest = gate-greatest g in
      rw gate-add (plain (gate g (get_or rest 0 0) (get_or rest 1 0)) (s.few.signal greatest)
      (λ n. (s.lower.one (omega arith) greatest, s.lower.two least greatest)))
  next k is_output s = record {
    signals = λ n b. i.signals n (named_less n p.naming at (get_or rest 1 0) b).0;
    outputs = λ n b.
        let r = named_less n p.naming at (get_or rest 1 0) b in
        outputs_more n p.outputs (record { pin = get_or rest 0 0; signal = get_or rest 1 0 }) (i.outputs n r.0) r.1;
    few = simp length-append (omega (arith, s.few.output refl));
  }

comes_proper : {file : List ℕ} {at : ℕ} {p : Part} → Comes file at p → ProperSoFar p
unfolding part_of_nothing
comes_proper begin = record { signals = λ n b. tt; outputs = λ n b. tt; few = omega arith }
comes_proper (onward {at} {p} k rest at' p' c here s n a q) = rw q (next p at rest (comes_proper c) k (kind_of k s.known n) s)

-- ## The sheet

pub read_proper : (file : List ℕ) (s : Sheet) → reading_of_sheet file ≡ value s → Proper s
read_proper file s e =
    let a = (accepted_exactly file s).0 e in
    let i = comes_proper a.last.comes in
    rw a.sheet (record {
      signals = i.signals _ a.named;
      outputs = i.outputs _ a.named;
      some = a.some;
      few = i.few;
    })

outputs_below : (n : ℕ) (os : List Output) → OutputsFit n os → (i : ℕ) → i < length os → get_or (map (λ o. o.signal) os) i 0 < n
outputs_below n [] f i l = absurd (omega arith)
outputs_below n (o ∷ os) f zero l = f.0
outputs_below n (o ∷ os) f (suc i) l = outputs_below n os f.1 i (omega arith)

pub outputs_name : (file : List ℕ) (s : Sheet) → reading_of_sheet file ≡ value s → OutputsName s
unfolding OutputsName
outputs_name file s e = outputs_below (length s.signals) s.outputs (read_proper file s e).outputs

pub some_signal : (file : List ℕ) (s : Sheet) → reading_of_sheet file ≡ value s → 0 < length s.signals
unfolding OutputsName
some_signal file s e = omega (arith, outputs_name file s e 0 (read_proper file s e).some)
