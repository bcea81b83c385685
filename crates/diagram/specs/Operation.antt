-- The operations, and the numbers that the cache has for them. Assumes nothing.
use Rattle.std.specs.Prelude.{Bool, not, ◌&&◌, ◌||◌, ℕ}
use Rattle.std.specs.Bool.{beq}
use Rattle.diagram.specs.declared.Op.{Op}
use Rattle.diagram.specs.declared.Op.TheVariants.{And, Or, Xor, Equal}

unfoldable pub op_of : Op → Bool → Bool → Bool
op_of And a b = a && b
op_of Or a b = a || b
op_of Xor a b = not (beq a b)
op_of Equal a b = beq a b

-- 0 is an empty slot; 5 to 7 are free for operations of other shapes
unfoldable pub code_of : Op → ℕ
code_of And = 1
code_of Or = 2
code_of Xor = 3
code_of Equal = 4

-- so many stamps fit a word beside one of so many codes
abbrev pub codes : ℕ
codes = 8

abbrev pub stamps : ℕ
stamps = 8192
