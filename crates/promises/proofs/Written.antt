-- What the writers write: how long it is, and that a grouping is read back. Assumes nothing.
use mathlib.Core.Path.{◌≡◌, refl, sym, ap, ◌∙◌}
use mathlib.Core.List.{List, [], ◌∷◌, ◌++◌, append-nil}
use Prim.Native.Nat.{ℕ, suc, ◌+◌, ◌*◌, ◌≤◌}
use native.Mathlib.Omega.{arith}
use native.Mathlib.Nat.{zero-add}
use lib.ListN.{length, get_or, length-append, length-drop}
use lib.Dec.{eqb}
use Rattle.meaning.specs.Numbers.{max_signals}
use Rattle.meaning.specs.Basic.{keep, concat_map}
use Rattle.meaning.specs.Sheet.{Signal, input, register, inverter, gate, Output, Sheet, value, Part, part_of_nothing, body_of, fault_of, first_fault, kind_is_unknown, exceeds_limits, operand_not_lower, inputs, registers, signal_is_input, signal_is_register, named, ending, gate_kind, signal_of, add, read_from, reading_of_sheet, reading_of_classes, bytes_of_signal, bytes_of_output, bytes_of_sheet, bytes_of_classes}
use Rattle.promises.specs.Proper.{SignalsFit}
use Rattle.promises.specs.Reading.{max_bytes, longest, Comes, begin, onward}
use Rattle.promises.proofs.Records.{gate_body, gate-add, Kind, is_input, is_register, is_inverter, is_gate, is_output, kind_of}
use Rattle.promises.proofs.SheetReading.{accepted_exactly}
use Rattle.promises.proofs.ReadProper.{read_proper}
use Rattle.promises.proofs.ClassesReading.{length-classes, classes_accepted_exactly}

-- ## The length of a sheet

signal_length : (s : Signal) → length (bytes_of_signal s) ≤ 3
unfolding bytes_of_signal
signal_length (input p) = omega arith
signal_length (register i s) = omega arith
signal_length (inverter a) = omega arith
signal_length (gate g a b) = omega arith

signals_length : (ss : List Signal) → length (concat_map bytes_of_signal ss) ≤ 3 * length ss
unfolding concat_map
signals_length [] = omega arith
signals_length (s ∷ ss) = simp length-append (omega (arith, signal_length s, signals_length ss))

outputs_length : (os : List Output) → length (concat_map bytes_of_output os) ≡ 3 * length os
unfolding concat_map bytes_of_output
outputs_length [] = refl
outputs_length (o ∷ os) = omega (arith, outputs_length os)

few_signals : (n : ℕ) (before ss : List Signal) → length before ≤ max_signals → SignalsFit n before ss → length before + length ss ≤ max_signals
few_signals n before [] l f = omega arith
few_signals n before (s ∷ ss) l f =
    let one = length-append before (s ∷ []) in
    omega (arith, few_signals n (before ++ (s ∷ [])) ss (omega (arith, f.0)) f.2)

-- at most 409 bytes are written
pub sheet_length : (file : List ℕ) (s : Sheet) → reading_of_sheet file ≡ value s → length (bytes_of_sheet s) ≤ max_bytes
unfolding bytes_of_sheet
sheet_length file s e =
    let p = read_proper file s e in
    simp length-append (omega (arith, signals_length s.signals, outputs_length s.outputs, p.few, few_signals _ [] s.signals (omega arith) p.signals))

-- the bytes of what has been read
size : Part → ℕ
size p = length (concat_map bytes_of_signal p.signals) + length (concat_map bytes_of_output p.outputs)

signals_longer : (ss : List Signal) (s : Signal) → length (concat_map bytes_of_signal (ss ++ (s ∷ []))) ≡ length (concat_map bytes_of_signal ss) + length (bytes_of_signal s)
unfolding concat_map
signals_longer [] s = simp (append-nil, zero-add)
signals_longer (x ∷ ss) s = simp length-append (omega (arith, signals_longer ss s))

outputs_longer : (os : List Output) (o : Output) → length (concat_map bytes_of_output (os ++ (o ∷ []))) ≡ length (concat_map bytes_of_output os) + 3
unfolding concat_map bytes_of_output
outputs_longer os o = omega (arith, outputs_length os, outputs_length (os ++ (o ∷ [])), length-append os (o ∷ []))

size_more : (p : Part) (at k a b : ℕ) → Kind k → size (add p at k a b) ≡ size p + suc (body_of k)
unfolding size add signal_of bytes_of_signal body_of
size_more p at k a b is_input = omega (arith, signals_longer p.signals (input a))
size_more p at k a b is_register = omega (arith, signals_longer p.signals (register (eqb a 1) b))
size_more p at k a b is_inverter = omega (arith, signals_longer p.signals (inverter a))
size_more p at k a b (is_gate g) = rw (gate-add, gate_body) (omega (arith, signals_longer p.signals (gate g a b)))
size_more p at k a b is_output = omega (arith, outputs_longer p.outputs (record { pin = a; signal = b }))

size_read : {file : List ℕ} {at : ℕ} {p : Part} → Comes file at p → at ≡ size p
unfolding size part_of_nothing concat_map
size_read begin = refl
size_read (onward {at} {p} k rest at' p' c here s n a q) =
    rw (a, q) (ap (λ (m : ℕ). m + suc (body_of k)) (size_read c) ∙ sym (size_more p at k (get_or rest 0 0) (get_or rest 1 0) (kind_of k s.known n)))

-- as many are written as were read
pub same_length : (file : List ℕ) (s : Sheet) → reading_of_sheet file ≡ value s → length (bytes_of_sheet s) ≡ length file
unfolding bytes_of_sheet size
same_length file s e =
    let a = (accepted_exactly file s).0 e in
    rw a.sheet (simp length-append (omega (arith, size_read a.last.comes, ap length a.last.here, length-drop a.end file)))

-- the longest accepted sheet has 409 bytes
pub file_length : (file : List ℕ) (s : Sheet) → reading_of_sheet file ≡ value s → length file ≤ max_bytes
file_length file s e = rw (← same_length file s e) (sheet_length file s e)

-- and one that long is accepted
pub longest-length : length (bytes_of_sheet longest) ≡ max_bytes
unfolding longest bytes_of_sheet bytes_of_signal bytes_of_output concat_map gate_kind
longest-length = refl

pub longest_read : reading_of_sheet (bytes_of_sheet longest) ≡ value longest
unfolding longest bytes_of_sheet bytes_of_signal bytes_of_output concat_map gate_kind reading_of_sheet read_from part_of_nothing fault_of first_fault body_of kind_is_unknown exceeds_limits operand_not_lower add signal_of named ending inputs registers keep signal_is_input signal_is_register
longest_read = refl

-- ## Groupings

-- a grouping takes 2n + 1 bytes
pub length-bytes_of_classes : (g : List ℕ) → length (bytes_of_classes g) ≡ 2 * length g + 1
unfolding bytes_of_classes
length-bytes_of_classes g = simp length-append (omega (arith, length-classes g))

-- what was written is read back
pub classes-written : (n : ℕ) (g : List ℕ) → length g ≡ n → reading_of_classes n (bytes_of_classes g) ≡ value g
unfolding bytes_of_classes
classes-written n g h = (classes_accepted_exactly n (bytes_of_classes g) g).1 (record { end = _; classes = record { split = refl; offset = refl }; count = h })

-- and what is read has a class for each signal
pub classes-length : (n : ℕ) (file g : List ℕ) → reading_of_classes n file ≡ value g → length g ≡ n
classes-length n file g e = ((classes_accepted_exactly n file g).0 e).count
