-- The operations are numbered in their order, from 1 on. Assumes nothing.
use Rattle.std.proofs.Common.{◌≡◌, ◌+◌, refl}
use denote.Enum.Declared.{tag_of}
use Rattle.diagram.specs.contracts.Op.{the_type}
use Rattle.diagram.specs.declared.Op.{Op}
use Rattle.diagram.specs.declared.Op.TheVariants.{And, Or, Xor, Equal}
use Rattle.diagram.specs.Operation.{code_of}
use Rattle.diagram.proofs.UsizeFromOp.from.Goals as goal

numbered : (op : Op) → tag_of the_type op + 1 ≡ code_of op
unfolding code_of
numbered And = refl
numbered Or = refl
numbered Xor = refl
numbered Equal = refl

pub returns : goal.returns
returns c = numbered c.args.op
