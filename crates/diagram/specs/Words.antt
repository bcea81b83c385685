-- The words of the table: ten to a node, word k of node i at 10 i + k. Assumes nothing.
use Rattle.std.specs.Prelude.{List, ℕ, ◌+◌, ◌*◌, ◌/◌, ◌%◌, length, get_or, set, drop}
use Rattle.meaning.specs.Numbers.{node_words}
use Rattle.meaning.specs.Room.{capacity}

-- ## What the words of node i hold

-- its height and its two branches; the next id in its chain
abbrev pub HEIGHT : ℕ
HEIGHT = 0

abbrev pub LOW : ℕ
LOW = 1

abbrev pub HIGH : ℕ
HIGH = 2

abbrev pub NEXT : ℕ
NEXT = 3

-- the first id of bucket i
abbrev pub BUCKET : ℕ
BUCKET = 4

-- slot i of the cache: an operation under a stamp, its two operands, its result
abbrev pub OPERATION : ℕ
OPERATION = 5

abbrev pub LEFT : ℕ
LEFT = 6

abbrev pub RIGHT : ℕ
RIGHT = 7

abbrev pub RESULT : ℕ
RESULT = 8

-- the table's stamp in node 0; in the other nodes this word is free for a third operand
abbrev pub STAMP : ℕ
STAMP = 9

-- ## Reading and storing

unfoldable pub at : List ℕ → ℕ → ℕ → ℕ
at w i k = get_or w (node_words * i + k) 0

unfoldable pub store : List ℕ → ℕ → ℕ → ℕ → List ℕ
store w i k x = set w (node_words * i + k) x

abbrev pub stamp_of : List ℕ → ℕ
stamp_of w = at w 0 STAMP

-- how many nodes there is room for, and the words behind the table
abbrev pub room_of : List ℕ → ℕ
room_of w = capacity (length w)

unfoldable pub rest_of : List ℕ → List ℕ
rest_of w = drop (node_words * room_of w) w

-- a number below n for three words: by three odd multipliers, and the upper part of a product in place of a division
unfoldable pub mixed : ℕ → ℕ → ℕ → ℕ
mixed x y z = (x * 3266489917 + y * 2654435761 + z * 2246822519) % 4294967296

unfoldable pub spread : ℕ → ℕ → ℕ → ℕ → ℕ
spread x y z n = mixed x y z * n / 4294967296
