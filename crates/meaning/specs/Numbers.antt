-- The paper's numbers, each in one place: kinds of records, limits, and what is answered. Assumes nothing.
use Rattle.std.specs.Prelude.{ℕ}

-- ## Kinds of records

abbrev pub INPUT : ℕ
INPUT = 0x01

abbrev pub REGISTER : ℕ
REGISTER = 0x02

abbrev pub NOT : ℕ
NOT = 0x03

abbrev pub AND : ℕ
AND = 0x04

abbrev pub OR : ℕ
OR = 0x05

abbrev pub XOR : ℕ
XOR = 0x06

abbrev pub OUTPUT : ℕ
OUTPUT = 0x07

abbrev pub END : ℕ
END = 0x08

abbrev pub CLASS : ℕ
CLASS = 0x11

-- ## Limits: of a sheet; of the table, with the words that a node takes

abbrev pub max_inputs : ℕ
max_inputs = 8

abbrev pub max_registers : ℕ
max_registers = 12

abbrev pub max_signals : ℕ
max_signals = 120

abbrev pub max_outputs : ℕ
max_outputs = 16

abbrev pub max_nodes : ℕ
max_nodes = 60000

abbrev pub node_words : ℕ
node_words = 10

-- ## What is answered: refusals, the file that a refusal names, and the reasons of UNDECIDED

pub data Refusal : Type 0 where
  SHORT KIND MANY VALUE LATER AFTER NO_OUTPUT DANGLING UNLIKE COUNT OUT VECTOR NO_ROOM : Refusal

unfoldable pub number_of : Refusal → ℕ
number_of SHORT = 10
number_of KIND = 11
number_of MANY = 12
number_of VALUE = 13
number_of LATER = 14
number_of AFTER = 15
number_of NO_OUTPUT = 16
number_of DANGLING = 17
number_of UNLIKE = 18
number_of COUNT = 19
number_of OUT = 20
number_of VECTOR = 21
number_of NO_ROOM = 22

pub data File : Type 0 where
  file_A file_B file_grouping no_file : File

unfoldable pub number_of_file : File → ℕ
number_of_file file_A = 0
number_of_file file_B = 1
number_of_file file_grouping = 2
number_of_file no_file = 3

pub data Reason : Type 0 where
  START STEP OUTPUTS : Reason

unfoldable pub number_of_reason : Reason → ℕ
number_of_reason START = 1
number_of_reason STEP = 2
number_of_reason OUTPUTS = 3
