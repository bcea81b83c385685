-- When a file is accepted, and when and where it is refused: each condition in the paper's words, stated apart from the reader. Assumes nothing.
use Rattle.std.specs.Prelude.{◌≡◌, false, List, [], ◌∷◌, ◌++◌, ◌⊎◌, ℕ, suc, ◌+◌, ◌-◌, ◌*◌, ◌≤◌, ◌<◌, length, get_or, drop, replicate}
use Rattle.meaning.specs.Numbers.{INPUT, REGISTER, NOT, AND, XOR, OUTPUT, END, CLASS, max_inputs, max_registers, max_signals, max_outputs, Refusal, SHORT, KIND, MANY, VALUE, LATER, AFTER, NO_OUTPUT, DANGLING, UNLIKE, COUNT, OUT, VECTOR, NO_ROOM}
use Rattle.meaning.specs.Basic.{concat_map}
use Rattle.meaning.specs.Sheet.{and, register, gate, Sheet, Part, part_of_nothing, inputs, registers, body_of, add}

-- the length of the longest accepted sheet: three bytes for each signal and output, and END
abbrev pub max_bytes : ℕ
max_bytes = 3 * (max_signals + max_outputs) + 1

-- a sheet of that length: a register, gates up to the limit, and as many outputs as may be
unfoldable pub longest : Sheet
longest = record {
  signals = register false 0 ∷ replicate (max_signals - 1) (gate and 0 0);
  outputs = replicate max_outputs (record { pin = 0; signal = 0 });
}

-- ## One record: its kind k, the bytes after the kind, and the part p of the sheet before it

pub record Known (k : ℕ) : Type 0 where
  pub least : INPUT ≤ k
  pub greatest : k ≤ END

-- its body is there
unfoldable pub Whole : ℕ → List ℕ → Type 0
Whole k rest = body_of k ≤ length rest

-- the limits allow one more of its kind
pub record Few (p : Part) (k : ℕ) : Type 0 where
  pub signal : k ≤ XOR → length p.signals < max_signals
  pub input : k ≡ INPUT → inputs p.signals < max_inputs
  pub register : k ≡ REGISTER → registers p.signals < max_registers
  pub output : k ≡ OUTPUT → length p.outputs < max_outputs

-- the initial value of a register is 0 or 1
unfoldable pub Binary : ℕ → List ℕ → Type 0
Binary k rest = k ≡ REGISTER → get_or rest 0 0 ≤ 1

-- the operands of a gate are lower numbers than its own: one of a NOT, two of an AND, OR or XOR
pub record Lower (p : Part) (k : ℕ) (rest : List ℕ) : Type 0 where
  pub one : NOT ≤ k → k ≤ XOR → get_or rest 0 0 < length p.signals
  pub two : AND ≤ k → k ≤ XOR → get_or rest 1 0 < length p.signals

pub record Sound (p : Part) (k : ℕ) (rest : List ℕ) : Type 0 where
  pub known : Known k
  pub whole : Whole k rest
  pub few : Few p k
  pub binary : Binary k rest
  pub lower : Lower p k rest

-- what a record is refused with: within a record KIND, SHORT, MANY, VALUE, LATER
pub data Faulty (p : Part) (k : ℕ) (rest : List ℕ) : Refusal → Type 0 where
  unknown_kind : ¬ Known k → Faulty p k rest KIND
  too_short : Known k → ¬ Whole k rest → Faulty p k rest SHORT
  too_many : Known k → Whole k rest → ¬ Few p k → Faulty p k rest MANY
  bad_value : Known k → Whole k rest → Few p k → ¬ Binary k rest → Faulty p k rest VALUE
  not_lower : Known k → Whole k rest → Few p k → Binary k rest → ¬ Lower p k rest → Faulty p k rest LATER

-- ## A sheet file

-- Reading comes to an offset with a part of the sheet: every record before it is sound, and none is END.
pub data Comes (file : List ℕ) : ℕ → Part → Type 0 where
  begin : Comes file 0 part_of_nothing
  onward : {at : ℕ} {p : Part} (k : ℕ) (rest : List ℕ) (at' : ℕ) (p' : Part)
      → Comes file at p → drop at file ≡ k ∷ rest → Sound p k rest → ¬ (k ≡ END)
      → at' ≡ at + suc (body_of k) → p' ≡ add p at k (get_or rest 0 0) (get_or rest 1 0)
      → Comes file at' p'

-- the same, with what is left of the file there
pub record Reaches (file : List ℕ) (at : ℕ) (left : List ℕ) : Type 0 where
  pub part : Part
  pub comes : Comes file at part
  pub here : drop at file ≡ left

-- a record that is refused
unfoldable pub FaultyAt : List ℕ → Refusal → ℕ → Type 0
FaultyAt file r at = (k : ℕ) × (rest : List ℕ) × (x : Reaches file at (k ∷ rest)) × Faulty x.part k rest r

-- Each REGISTER and OUTPUT record, as an offset and the signal that it names: all name one of n signals.
abbrev pub NamedBelow : ℕ → List (ℕ × ℕ) → Type 0
NamedBelow n [] = Unit {0}
NamedBelow n (x ∷ xs) = (x.1 < n) × NamedBelow n xs

-- the first of them that names none of n signals is at an offset
pub record FirstDangling (n : ℕ) (naming : List (ℕ × ℕ)) (at : ℕ) : Type 0 where
  pub before : List (ℕ × ℕ)
  pub signal : ℕ
  pub later : List (ℕ × ℕ)
  pub split : naming ≡ before ++ ((at, signal) ∷ later)
  pub good : NamedBelow n before
  pub none : n ≤ signal

-- the exact condition of each refusal of a sheet, with its position
unfoldable pub Refused : List ℕ → Refusal → ℕ → Type 0
Refused file SHORT at = (Reaches file at [] × (at ≡ length file)) ⊎ FaultyAt file SHORT at
Refused file KIND at = FaultyAt file KIND at
Refused file MANY at = FaultyAt file MANY at
Refused file VALUE at = FaultyAt file VALUE at
Refused file LATER at = FaultyAt file LATER at
Refused file AFTER at = (e : ℕ) × (x : ℕ) × (more : List ℕ) × Reaches file e (END ∷ x ∷ more) × (at ≡ suc e)
Refused file NO_OUTPUT at = (x : Reaches file at (END ∷ [])) × (x.part.outputs ≡ [])
Refused file DANGLING at =
    (e : ℕ) × (x : Reaches file e (END ∷ [])) × (0 < length x.part.outputs) × FirstDangling (length x.part.signals) x.part.naming at
Refused file UNLIKE at = ⊥
Refused file COUNT at = ⊥
Refused file OUT at = ⊥
Refused file VECTOR at = ⊥
Refused file NO_ROOM at = ⊥

-- END is last, there is an output, every record names a signal of the sheet, and s is what was read
pub record Accepted (file : List ℕ) (s : Sheet) : Type 0 where
  pub end : ℕ
  pub last : Reaches file end (END ∷ [])
  pub some : 0 < length last.part.outputs
  pub named : NamedBelow (length last.part.signals) last.part.naming
  pub sheet : s ≡ record { signals = last.part.signals; outputs = last.part.outputs }

-- ## A grouping file of n signals

-- a file begins with the CLASS records of some class numbers, and the rest is at an offset
pub record Classes (file cs rest : List ℕ) (at : ℕ) : Type 0 where
  pub split : file ≡ concat_map (λ c. CLASS ∷ c ∷ []) cs ++ rest
  pub offset : at ≡ 2 * length cs

-- the exact condition of each refusal of a grouping, with its position
unfoldable pub ClassesRefused : ℕ → List ℕ → Refusal → ℕ → Type 0
ClassesRefused n file SHORT at = (cs : List ℕ) × ((Classes file cs [] at × (at ≡ length file)) ⊎ Classes file cs (CLASS ∷ []) at)
ClassesRefused n file KIND at = (cs : List ℕ) × (k : ℕ) × (rest : List ℕ) × Classes file cs (k ∷ rest) at × ¬ (k ≡ CLASS) × ¬ (k ≡ END)
ClassesRefused n file MANY at = ⊥
ClassesRefused n file VALUE at = ⊥
ClassesRefused n file LATER at = ⊥
ClassesRefused n file AFTER at = (cs : List ℕ) × (x : ℕ) × (more : List ℕ) × (e : ℕ) × Classes file cs (END ∷ x ∷ more) e × (at ≡ suc e)
ClassesRefused n file NO_OUTPUT at = ⊥
ClassesRefused n file DANGLING at = ⊥
ClassesRefused n file UNLIKE at = ⊥
ClassesRefused n file COUNT at = (cs : List ℕ) × Classes file cs (END ∷ []) at × ¬ (length cs ≡ n)
ClassesRefused n file OUT at = ⊥
ClassesRefused n file VECTOR at = ⊥
ClassesRefused n file NO_ROOM at = ⊥

-- n CLASS records, and END last
pub record ClassesAccepted (n : ℕ) (file g : List ℕ) : Type 0 where
  pub end : ℕ
  pub classes : Classes file g (END ∷ []) end
  pub count : length g ≡ n
