-- The codes of the operations. Assumes nothing.
use mathlib.Core.Path.{◌≡◌, refl}
use Prim.Native.Nat.{◌<◌}
use native.Mathlib.Omega.{arith}
use Rattle.diagram.specs.declared.Op.{Op}
use Rattle.diagram.specs.declared.Op.TheVariants.{And, Or, Xor, Equal}
use Rattle.diagram.specs.Operation.{code_of, codes}

pub code_some : (op : Op) → 0 < code_of op
unfolding code_of
code_some And = omega arith
code_some Or = omega arith
code_some Xor = omega arith
code_some Equal = omega arith

pub code_small : (op : Op) → code_of op < codes
unfolding code_of
code_small And = omega arith
code_small Or = omega arith
code_small Xor = omega arith
code_small Equal = omega arith

pub code_inj : (p q : Op) → code_of p ≡ code_of q → p ≡ q
unfolding code_of
code_inj And And e = refl
code_inj And Or e = absurd (omega arith)
code_inj And Xor e = absurd (omega arith)
code_inj And Equal e = absurd (omega arith)
code_inj Or And e = absurd (omega arith)
code_inj Or Or e = refl
code_inj Or Xor e = absurd (omega arith)
code_inj Or Equal e = absurd (omega arith)
code_inj Xor And e = absurd (omega arith)
code_inj Xor Or e = absurd (omega arith)
code_inj Xor Xor e = refl
code_inj Xor Equal e = absurd (omega arith)
code_inj Equal And e = absurd (omega arith)
code_inj Equal Or e = absurd (omega arith)
code_inj Equal Xor e = absurd (omega arith)
code_inj Equal Equal e = refl
