-- What has been read so far: the sheet and the records that name a signal, as the paper adds them, up to END. Assumes nothing.
use Rattle.std.specs.Prelude.{ℕ, ◌+◌, ◌<◌, ◌≡◌, List, [], ◌∷◌, ◌++◌, Result, Ok, map, length, get_or, eqb, if◌then◌else◌}
use Rattle.arrayvec.specs.ArrayVec.{array_vec_len}
use Rattle.meaning.specs.Numbers.{INPUT, REGISTER, OUTPUT, max_registers, max_outputs}
use Rattle.meaning.specs.Sheet as paper
use Rattle.answer.specs.Meant.{read_by}
use Rattle.answer.specs.declared.Fault.{Fault}
use Rattle.sheet.specs.declared.kind.Kind.TheVariants.{Register}
use Rattle.sheet.specs.declared.Signal.{Signal}
use Rattle.sheet.specs.declared.Output.{Output}
use Rattle.sheet.specs.declared.Sheet.{Sheet}
use Rattle.sheet.specs.declared.record.Record.{Record}
use Rattle.sheet.specs.declared.record.Record.TheVariants as says
use Rattle.sheet.specs.declared.reader.Name.{Name}
use Rattle.sheet.specs.declared.reader.Part.{Part}
use Rattle.sheet.specs.Stored.{number_of_kind, sheet_of, empty_sheet, nth_signal, nth_output, Kept, Whole}
use Rattle.sheet.specs.Record.{part_of}

-- ## The sheet with one more record

-- one, if a record is of the kind that is counted
abbrev pub count_of : ℕ → ℕ → ℕ
count_of k x = if eqb k x then 1 else 0

abbrev pub sheet_with_signal : Sheet → Signal → Sheet
sheet_with_signal s x = record {
  signals = record { items = s.signals.items ++ x ∷ [] };
  outputs = s.outputs;
  inputs = s.inputs + count_of (number_of_kind x.kind) INPUT;
  registers = s.registers + count_of (number_of_kind x.kind) REGISTER;
}

abbrev pub sheet_with_output : Sheet → Output → Sheet
sheet_with_output s o = record {
  signals = s.signals;
  outputs = record { items = s.outputs.items ++ o ∷ [] };
  inputs = s.inputs;
  registers = s.registers;
}

-- ## The part with one more record

-- what is read past the end, and the most names
abbrev pub no_name : Name
no_name = record { at = 0; signal = 0 }

abbrev pub max_names : ℕ
max_names = max_registers + max_outputs

abbrev pub empty_part : Part
empty_part = record { sheet = empty_sheet; naming = record { items = [] } }

abbrev pub part_with_sheet : Part → Sheet → Part
part_with_sheet p s = record { sheet = s; naming = p.naming }

abbrev pub part_with_name : Part → Sheet → ℕ → ℕ → Part
part_with_name p s at signal = record {
  sheet = s;
  naming = record { items = p.naming.items ++ record { at = at; signal = signal } ∷ [] };
}

-- ## The paper's part

unfoldable pub name_of : Name → ℕ × ℕ
name_of x = (x.at, x.signal)

unfoldable pub names_of : Part → List (ℕ × ℕ)
names_of p = map name_of p.naming.items

abbrev pub name_at : Part → ℕ → Name
name_at p i = get_or p.naming.items i no_name

-- a signal is among those that the records read so far name
pub record Among (p : Part) (signal : ℕ) : Type 0 where
  pub place : ℕ
  pub used : place < array_vec_len p.naming
  pub here : (name_at p place).signal ≡ signal

-- What holds of a part from its first record on: a name for each register and output.
pub record KeptPart (p : Part) : Type 0 where
  pub sheet : Kept p.sheet
  pub names : array_vec_len p.naming ≡ p.sheet.registers + array_vec_len p.sheet.outputs
  pub sources : (i : ℕ) → i < array_vec_len p.sheet.signals → (nth_signal p.sheet i).kind ≡ Register → Among p (nth_signal p.sheet i).b
  pub shown : (i : ℕ) → i < array_vec_len p.sheet.outputs → Among p (nth_output p.sheet i).signal

unfoldable pub part_is : Part → paper.Part
part_is p = part_of p.sheet (names_of p)

-- one more record, at an offset; END adds nothing
abbrev pub with_record : paper.Part → ℕ → Record → paper.Part
with_record p at (says.Signal x) = paper.add p at (number_of_kind x.kind) x.a x.b
with_record p at (says.Output o) = paper.add p at OUTPUT o.pin o.signal
with_record p at says.End = p

pub record Added (p : Part) (at : ℕ) (x : Record) (q : Part) : Type 0 where
  pub is : part_is q ≡ with_record (part_is p) at x
  pub kept : KeptPart q

-- ## How the reading ends

-- END at an offset of a file of this size
pub record Ended (p : Part) (at size : ℕ) (r : Result Sheet Fault) : Type 0 where
  pub is : (rest : List ℕ) → at + 1 + length rest ≡ size → read_by sheet_of r ≡ paper.ending (part_is p) at rest
  pub whole : (s : Sheet) → r ≡ Ok s → Whole s
