-- One record: it is judged as the paper says, over the sheet so far. Assumes nothing.
use Rattle.std.specs.Prelude.{ℕ, ◌+◌, ◌<◌, ◌≡◌, Bool, true, false, ◌&&◌, ◌||◌, List, Result, Ok, Err, length, get_or, drop, eqb, leb, if◌then◌else◌}
use Rattle.arrayvec.specs.ArrayVec.{array_vec_len}
use Rattle.meaning.specs.Numbers.{NOT, AND, XOR, OUTPUT, END, max_inputs, max_registers, max_signals, max_outputs}
use Rattle.meaning.specs.Sheet as paper
use Rattle.answer.specs.Meant.{refusal_of}
use Rattle.answer.specs.declared.Refusal.{Refusal}
use Rattle.answer.specs.declared.Refusal.TheVariants as refusal
use Rattle.sheet.specs.declared.kind.Kind.{Kind}
use Rattle.sheet.specs.declared.kind.Kind.TheVariants.{Input, Register, Not, And, Or, Xor}
use Rattle.sheet.specs.declared.Signal as signal
use Rattle.sheet.specs.declared.Sheet.{Sheet}
use Rattle.sheet.specs.declared.record.RecordKind.{RecordKind}
use Rattle.sheet.specs.declared.record.RecordKind.TheVariants as begins
use Rattle.sheet.specs.declared.record.Record.{Record}
use Rattle.sheet.specs.declared.record.Record.TheVariants.{Signal, Output, End}
use Rattle.sheet.specs.Stored.{number_of_kind, sheet_of, Right}

-- the paper's part, of a sheet and the names read so far
unfoldable pub part_of : Sheet → List (ℕ × ℕ) → paper.Part
part_of s names = record { signals = (sheet_of s).signals; outputs = (sheet_of s).outputs; naming = names }

-- ## The kind of a record

abbrev pub number_of_record : RecordKind → ℕ
number_of_record (begins.Signal k) = number_of_kind k
number_of_record begins.Output = OUTPUT
number_of_record begins.End = END

-- a number in a file is that of a kind, or KIND
abbrev pub Begins : ℕ → Result RecordKind Refusal → Type 0
Begins n (Ok k) = number_of_record k ≡ n
Begins n (Err f) = (f ≡ refusal.Kind) × (paper.kind_is_unknown n ≡ true)

-- inputs and registers have a limit of their own
abbrev pub full : Sheet → Kind → Bool
full s Input = leb max_inputs s.inputs
full s Register = leb max_registers s.registers
full s Not = false
full s And = false
full s Or = false
full s Xor = false

-- ## The record

-- the second byte of a body, 0 where the body has one
unfoldable pub second_of : ℕ → ℕ → ℕ
second_of k b = if eqb (paper.body_of k) 2 then b else 0

-- what the rest of a file says from the record of a signal on
abbrev pub signal_in : List ℕ → Kind → signal.Signal
signal_in rest k = record { kind = k; a = get_or rest 1 0; b = second_of (number_of_kind k) (get_or rest 2 0) }

-- LATER, of signal n
unfoldable pub late_of : ℕ → ℕ → ℕ → ℕ → Bool
late_of n k a b = (leb NOT k && leb k XOR && leb n a) || (leb AND k && leb k XOR && leb n b)

-- the paper's fault of a record
unfoldable pub fault_is : Result Record Refusal → paper.Fault
fault_is (Ok x) = paper.sound
fault_is (Err f) = paper.faulty (refusal_of f)

-- a signal can be added to a sheet
pub record Fits (s : Sheet) (x : signal.Signal) : Type 0 where
  pub signal : array_vec_len s.signals < max_signals
  pub right : Right (array_vec_len s.signals) x
  pub input : x.kind ≡ Input → s.inputs < max_inputs
  pub register : x.kind ≡ Register → s.registers < max_registers

-- the kind of a record, and how many bytes of a file it takes
abbrev pub kind_of : Record → RecordKind
kind_of (Signal x) = begins.Signal x.kind
kind_of (Output o) = begins.Output
kind_of End = begins.End

abbrev pub length_of : Record → ℕ
length_of x = 1 + paper.body_of (number_of_record (kind_of x))

-- what the bytes of a record at the front of the rest of a file say
abbrev pub Says : List ℕ → Record → Type 0
Says rest (Signal x) = (number_of_kind x.kind ≡ get_or rest 0 0) × (x ≡ signal_in rest x.kind)
Says rest (Output o) = (OUTPUT ≡ get_or rest 0 0) × (o.pin ≡ get_or rest 1 0) × (o.signal ≡ get_or rest 2 0)
Says rest End = END ≡ get_or rest 0 0

-- a record can be added to a sheet
abbrev pub CanAdd : Sheet → Record → Type 0
CanAdd s (Signal x) = Fits s x
CanAdd s (Output o) = array_vec_len s.outputs < max_outputs
CanAdd s End = Unit {0}

-- a sound record at the front of the rest of a file
pub record Said (rest : List ℕ) (s : Sheet) (x : Record) : Type 0 where
  pub says : Says rest x
  pub whole : paper.body_of (get_or rest 0 0) < length rest
  pub fits : CanAdd s x

-- the record at the front of the rest of a file, over a sheet so far, is judged as the paper says
pub record Judged (rest : List ℕ) (s : Sheet) (r : Result Record Refusal) : Type 0 where
  pub fault : (names : List (ℕ × ℕ)) → fault_is r ≡ paper.fault_of (part_of s names) (get_or rest 0 0) (drop 1 rest)
  pub said : (x : Record) → r ≡ Ok x → Said rest s x
