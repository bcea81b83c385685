-- Sheets and groupings: what a file says, or where it is refused; and how they are written. Assumes nothing.
use Rattle.std.specs.Prelude.{ℕ, zero, suc, ◌+◌, Bool, true, false, ◌&&◌, ◌||◌, List, [], ◌∷◌, ◌++◌, length, get_or, eqb, ltb, leb, if◌then◌else◌}
use Rattle.meaning.specs.Numbers.{INPUT, REGISTER, NOT, AND, OR, XOR, OUTPUT, END, CLASS, max_inputs, max_registers, max_signals, max_outputs, Refusal, SHORT, KIND, MANY, VALUE, LATER, AFTER, NO_OUTPUT, DANGLING, COUNT}
use Rattle.meaning.specs.Basic.{keep, concat_map}

-- the gates of two operands
pub data Gate : Type 0 where
  and or xor : Gate

-- A signal: an input with its pin; a register with its initial value and source; an inverter or a gate with its operands.
pub data Signal : Type 0 where
  input : ℕ → Signal
  register : Bool → ℕ → Signal
  inverter : ℕ → Signal
  gate : Gate → ℕ → ℕ → Signal

pub record Output : Type 0 where
  pub pin : ℕ
  pub signal : ℕ

pub record Sheet : Type 0 where
  pub signals : List Signal
  pub outputs : List Output

-- What reading a file gives: a refusal with its position, or what the file says.
pub data Read (A : Type 0) : Type 0 where
  refused : Refusal → ℕ → Read A
  value : A → Read A

unfoldable pub signal_is_input : Signal → Bool
signal_is_input (input p) = true
signal_is_input (register i s) = false
signal_is_input (inverter a) = false
signal_is_input (gate g a b) = false

unfoldable pub signal_is_register : Signal → Bool
signal_is_register (input p) = false
signal_is_register (register i s) = true
signal_is_register (inverter a) = false
signal_is_register (gate g a b) = false

unfoldable pub inputs : List Signal → ℕ
inputs ss = length (keep signal_is_input ss)

unfoldable pub registers : List Signal → ℕ
registers ss = length (keep signal_is_register ss)

-- ## Reading a sheet

-- What has been read so far; naming has, in file order, the offset of each REGISTER and OUTPUT record and the signal that it names.
pub record Part : Type 0 where
  pub signals : List Signal
  pub outputs : List Output
  pub naming : List (ℕ × ℕ)

unfoldable pub part_of_nothing : Part
part_of_nothing = record { signals = []; outputs = []; naming = [] }

-- the length of a record's body
unfoldable pub body_of : ℕ → ℕ
body_of k = if eqb k END then 0 else if eqb k INPUT || eqb k NOT then 1 else 2

unfoldable pub kind_is_unknown : ℕ → Bool
kind_is_unknown k = ltb k INPUT || ltb END k

-- a record of kind k is one more than the limits allow
unfoldable pub exceeds_limits : Part → ℕ → Bool
exceeds_limits p k =
    (leb k XOR && leb max_signals (length p.signals))
    || (eqb k INPUT && leb max_inputs (inputs p.signals))
    || (eqb k REGISTER && leb max_registers (registers p.signals))
    || (eqb k OUTPUT && leb max_outputs (length p.outputs))

-- an operand of a NOT, AND, OR or XOR is not a lower number than its own
unfoldable pub operand_not_lower : Part → ℕ → ℕ → ℕ → Bool
operand_not_lower p k a b =
    (leb NOT k && leb k XOR && leb (length p.signals) a) || (leb AND k && leb k XOR && leb (length p.signals) b)

-- the first of some faults that is there, if one is
pub data Fault : Type 0 where
  sound : Fault
  faulty : Refusal → Fault

unfoldable pub first_fault : List (Bool × Refusal) → Fault
first_fault [] = sound
first_fault (f ∷ fs) = if f.0 then faulty f.1 else first_fault fs

-- A record of kind k, with the rest of the file after its kind: KIND, SHORT, MANY, VALUE, LATER.
unfoldable pub fault_of : Part → ℕ → List ℕ → Fault
fault_of p k rest = first_fault (
    (kind_is_unknown k, KIND) ∷
    (ltb (length rest) (body_of k), SHORT) ∷
    (exceeds_limits p k, MANY) ∷
    (eqb k REGISTER && ltb 1 (get_or rest 0 0), VALUE) ∷
    (operand_not_lower p k (get_or rest 0 0) (get_or rest 1 0), LATER) ∷
    [])

-- the signal that a record of kind k defines, with the body a b
unfoldable pub signal_of : ℕ → ℕ → ℕ → Signal
signal_of k a b =
    if eqb k INPUT then input a
    else if eqb k REGISTER then register (eqb a 1) b
    else if eqb k NOT then inverter a
    else if eqb k AND then gate and a b
    else if eqb k OR then gate or a b
    else gate xor a b

-- a record of kind k with the body a b, read at an offset
unfoldable pub add : Part → ℕ → ℕ → ℕ → ℕ → Part
add p at k a b =
    if eqb k OUTPUT then record {
      signals = p.signals;
      outputs = p.outputs ++ (record { pin = a; signal = b } ∷ []);
      naming = p.naming ++ ((at, b) ∷ []);
    }
    else record {
      signals = p.signals ++ (signal_of k a b ∷ []);
      outputs = p.outputs;
      naming = if eqb k REGISTER then p.naming ++ ((at, b) ∷ []) else p.naming;
    }

-- the sheet, if each record names one of its n signals; else the first that does not
unfoldable pub named : ℕ → List (ℕ × ℕ) → Sheet → Read Sheet
named n [] s = value s
named n (x ∷ xs) s = if ltb x.1 n then named n xs s else refused DANGLING x.0

-- END at an offset, with the rest of the file after it: AFTER, NO OUTPUT, DANGLING.
unfoldable pub ending : Part → ℕ → List ℕ → Read Sheet
ending p at (x ∷ rest) = refused AFTER (suc at)
ending p at [] =
    if eqb (length p.outputs) 0 then refused NO_OUTPUT at
    else named (length p.signals) p.naming (record { signals = p.signals; outputs = p.outputs })

-- The rest of a file from an offset on, of which the first bytes, `skip` of them, belong to the record before.
unfoldable pub read_from : List ℕ → ℕ → ℕ → Part → Read Sheet
read_from [] skip at p = refused SHORT at
read_from (k ∷ rest) (suc skip) at p = read_from rest skip (suc at) p
read_from (k ∷ rest) zero at p = elim (fault_of p k rest) [
  | sound ↦ elim (eqb k END) [
    | true ↦ ending p at rest
    | false ↦ read_from rest (body_of k) (suc at) (add p at k (get_or rest 0 0) (get_or rest 1 0))
  ]
  | faulty r ↦ refused r at
]

unfoldable pub reading_of_sheet : List ℕ → Read Sheet
reading_of_sheet file = read_from file 0 0 part_of_nothing

-- ## Reading a grouping of n signals

-- the rest of a file from an offset on, with the class numbers read before: KIND, SHORT; at END AFTER, COUNT
unfoldable pub read_classes_from : ℕ → List ℕ → ℕ → List ℕ → Read (List ℕ)
read_classes_from n [] at cs = refused SHORT at
read_classes_from n (k ∷ []) at cs =
    if eqb k CLASS then refused SHORT at
    else if eqb k END then (if eqb (length cs) n then value cs else refused COUNT at)
    else refused KIND at
read_classes_from n (k ∷ c ∷ rest) at cs =
    if eqb k CLASS then read_classes_from n rest (at + 2) (cs ++ (c ∷ []))
    else if eqb k END then refused AFTER (suc at)
    else refused KIND at

unfoldable pub reading_of_classes : ℕ → List ℕ → Read (List ℕ)
reading_of_classes n file = read_classes_from n file 0 []

-- ## Writing

unfoldable pub gate_kind : Gate → ℕ
gate_kind and = AND
gate_kind or = OR
gate_kind xor = XOR

unfoldable pub bytes_of_signal : Signal → List ℕ
bytes_of_signal (input p) = INPUT ∷ p ∷ []
bytes_of_signal (register i s) = REGISTER ∷ (if i then 1 else 0) ∷ s ∷ []
bytes_of_signal (inverter a) = NOT ∷ a ∷ []
bytes_of_signal (gate g a b) = gate_kind g ∷ a ∷ b ∷ []

unfoldable pub bytes_of_output : Output → List ℕ
bytes_of_output o = OUTPUT ∷ o.pin ∷ o.signal ∷ []

-- signal records first, then outputs in order, then END
unfoldable pub bytes_of_sheet : Sheet → List ℕ
bytes_of_sheet s = concat_map bytes_of_signal s.signals ++ (concat_map bytes_of_output s.outputs ++ (END ∷ []))

unfoldable pub bytes_of_classes : List ℕ → List ℕ
bytes_of_classes cs = concat_map (λ c. CLASS ∷ c ∷ []) cs ++ (END ∷ [])
