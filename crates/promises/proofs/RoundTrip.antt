-- The round trip: what the sheet writer wrote of a sheet that was read is read back as that sheet. Assumes nothing.
use Rattle.std.specs.Prelude.{if◌then◌else◌}
use mathlib.Core.Path.{◌≡◌, refl, sym}
use mathlib.Core.Bool.{Bool, true, false}
use mathlib.Core.List.{List, [], ◌∷◌, ◌++◌, append_assoc, append-nil}
use Prim.Native.Nat.{ℕ, suc, ◌+◌, ◌≤◌, ◌<◌}
use native.Mathlib.Omega.{arith}
use lib.ListN.{length, get_or, drop, length-append}
use lib.Dec.{eqb}
use borrow.Author.Rules.{rules}
use Rattle.meaning.specs.Numbers.{INPUT, REGISTER, NOT, OUTPUT, END, max_inputs, max_registers, max_signals, max_outputs}
use Rattle.meaning.specs.Basic.{concat_map}
use Rattle.meaning.specs.Sheet.{Gate, Signal, input, register, inverter, gate, Output, Sheet, value, Part, part_of_nothing, inputs, registers, body_of, signal_of, add, reading_of_sheet, gate_kind, bytes_of_signal, bytes_of_output, bytes_of_sheet}
use Rattle.promises.specs.Proper.{Fits, SignalsFit, OutputsFit, Proper}
use Rattle.promises.specs.Reading.{Whole, Binary, Sound, Comes, begin, onward, NamedBelow}
use Rattle.promises.proofs.Records.{gate-least, gate-greatest, gate_body, gate-add}
use Rattle.promises.proofs.SheetReading.{rest_at, accepted_exactly}
use Rattle.promises.proofs.ReadProper.{read_proper}

-- ## What is written is sound

module _ (p : Part) (rest : List ℕ) where
  module _ (l : length p.signals < max_signals) where
    sound-input : (a : ℕ) → inputs p.signals < max_inputs → Sound p INPUT (a ∷ rest)
    unfolding Whole Binary body_of
    sound-input a h = search rules

    sound-register : (i : Bool) (b : ℕ) → registers p.signals < max_registers → Sound p REGISTER ((if i then 1 else 0) ∷ b ∷ rest)
    unfolding Whole Binary body_of
    sound-register true b h = search rules
    sound-register false b h = search rules

    sound-inverter : (a : ℕ) → a < length p.signals → Sound p NOT (a ∷ rest)
    unfolding Whole Binary body_of
    sound-inverter a h = search rules

    sound-gate : (g : Gate) (a b : ℕ) → a < length p.signals → b < length p.signals → Sound p (gate_kind g) (a ∷ b ∷ rest)
    unfolding Whole Binary
    sound-gate g a b ha hb =
        let least = gate-least g in
        let greatest = gate-greatest g in
        let body = gate_body g in
        search rules

  sound_output : (a b : ℕ) → length p.outputs < max_outputs → Sound p OUTPUT (a ∷ b ∷ rest)
  unfolding Whole Binary body_of
  sound_output a b h = search rules

-- ## Reading what is written, record by record

named_more : (n : ℕ) (naming : List (ℕ × ℕ)) (at s : ℕ) → NamedBelow n naming → s < n → NamedBelow n (naming ++ ((at, s) ∷ []))
named_more n [] at s b l = (l, tt)
named_more n (x ∷ naming) at s b l = (b.0, named_more n naming at s b.1 l)

bit_back : (i : Bool) → eqb (if i then 1 else 0) 1 ≡ i
bit_back true = refl
bit_back false = refl

part_of : List Signal → List Output → List (ℕ × ℕ) → Part
part_of ss os naming = record { signals = ss; outputs = os; naming = naming }

-- Some signals and outputs of a sheet of n signals have been read, and some bytes are left.
record Progress (file : List ℕ) (n : ℕ) (ss : List Signal) (os : List Output) (left : List ℕ) : Type 0 where
  at : ℕ
  naming : List (ℕ × ℕ)
  comes : Comes file at (part_of ss os naming)
  here : drop at file ≡ left
  named : NamedBelow n naming

module _ (file : List ℕ) (n : ℕ) where
  one-record : {ss ss' : List Signal} {os os' : List Output} (k : ℕ) (rest : List ℕ) (x : Progress file n ss os (k ∷ rest)) (naming' : List (ℕ × ℕ))
      → Sound (part_of ss os x.naming) k rest → ¬ (k ≡ END)
      → part_of ss' os' naming' ≡ add (part_of ss os x.naming) x.at k (get_or rest 0 0) (get_or rest 1 0) → NamedBelow n naming'
      → Progress file n ss' os' (drop (body_of k) rest)
  one-record k rest x naming' s e q b = record {
    at = x.at + suc (body_of k);
    naming = naming';
    comes = onward k rest _ _ x.comes x.here s e refl q;
    here = rest_at file x.at k rest x.here;
    named = b;
  }

  one_signal : (s : Signal) (ss : List Signal) (os : List Output) (rest : List ℕ) → length ss < max_signals → Fits n ss s
      → Progress file n ss os (bytes_of_signal s ++ rest) → Progress file n (ss ++ (s ∷ [])) os rest
  unfolding bytes_of_signal part_of body_of add signal_of
  one_signal (input a) ss os rest l f x =
      one-record INPUT (a ∷ rest) x _ (sound-input _ rest l a f) (λ e. omega arith) refl x.named
  one_signal (register i b) ss os rest l f x =
      one-record REGISTER ((if i then 1 else 0) ∷ b ∷ rest) x (x.naming ++ ((x.at, b) ∷ [])) (sound-register _ rest l i b f.0) (λ e. omega arith)
      (rw bit_back) (named_more n x.naming x.at b x.named f.1)
  one_signal (inverter a) ss os rest l f x =
      one-record NOT (a ∷ rest) x _ (sound-inverter _ rest l a f) (λ e. omega arith) refl x.named
  one_signal (gate g a b) ss os rest l f x =
      let added = gate-add g (part_of ss os x.naming) x.at a b in
      rw gate_body at
      (one-record (gate_kind g) (a ∷ b ∷ rest) x x.naming (sound-gate _ rest l g a b f.0 f.1) (λ e. omega (arith, gate-greatest g)) (sym added) x.named)

  all_signals : (more ss : List Signal) (os : List Output) (rest : List ℕ) → SignalsFit n ss more
      → Progress file n ss os (concat_map bytes_of_signal more ++ rest) → Progress file n (ss ++ more) os rest
  unfolding concat_map
  all_signals [] ss os rest f x = rw append-nil x
  all_signals (s ∷ more) ss os rest f x =
      rw append_assoc at
      (all_signals more (ss ++ (s ∷ [])) os rest f.2 (one_signal s ss os (concat_map bytes_of_signal more ++ rest) f.0 f.1 (rw append_assoc at x)))

  one_output : (o : Output) (ss : List Signal) (os : List Output) (rest : List ℕ) → length os < max_outputs → o.signal < n
      → Progress file n ss os (bytes_of_output o ++ rest) → Progress file n ss (os ++ (o ∷ [])) rest
  unfolding bytes_of_output part_of body_of add
  one_output o ss os rest l f x =
      one-record OUTPUT (o.pin ∷ o.signal ∷ rest) x _ (sound_output _ rest o.pin o.signal l) (λ e. omega arith) refl
      (named_more n x.naming x.at o.signal x.named f)

  all_outputs : (more : List Output) (ss : List Signal) (os : List Output) (rest : List ℕ) → length os + length more ≤ max_outputs → OutputsFit n more
      → Progress file n ss os (concat_map bytes_of_output more ++ rest) → Progress file n ss (os ++ more) rest
  unfolding concat_map
  all_outputs [] ss os rest l f x = rw append-nil x
  all_outputs (o ∷ more) ss os rest l f x =
      rw append_assoc at
      (all_outputs more ss (os ++ (o ∷ [])) rest (omega (arith, length-append os (o ∷ []))) f.1
      (one_output o ss os (concat_map bytes_of_output more ++ rest) (omega arith) f.0 (rw append_assoc at x)))

-- ## The whole file

pub read_written : (s : Sheet) → Proper s → reading_of_sheet (bytes_of_sheet s) ≡ value s
unfolding bytes_of_sheet part_of part_of_nothing
read_written s p =
    let n = length s.signals in
    let nothing : Progress (bytes_of_sheet s) n [] [] (bytes_of_sheet s) = record { at = 0; naming = []; comes = begin; here = refl; named = tt } in
    let signals = all_signals (bytes_of_sheet s) n s.signals [] [] _ p.signals nothing in
    let all = all_outputs (bytes_of_sheet s) n s.outputs s.signals [] (END ∷ []) (omega (arith, p.few)) p.outputs signals in
    (accepted_exactly (bytes_of_sheet s) s).1 (record {
      end = all.at;
      last = record { part = _; comes = all.comes; here = all.here };
      some = p.some;
      named = all.named;
      sheet = refl;
    })

pub round_trip : (file : List ℕ) (s : Sheet) → reading_of_sheet file ≡ value s → reading_of_sheet (bytes_of_sheet s) ≡ value s
round_trip file s e = read_written s (read_proper file s e)
