-- A register takes the value of the signal that its record names. Assumes nothing.
use Rattle.std.proofs.Common.{rules}
use mathlib.Core.Path.{◌∙◌, ap}
use Rattle.sheet.proofs.Right.{signal_register}
use Rattle.tick.specs.Tick.{state_of}
use Rattle.tick.proofs.Holding.{taken_of, taken_held}
use Rattle.tick.proofs.taken.Goals as goal

pub returns : goal.returns
unfolding taken_of
returns c =
    c.state_by.ensures (taken_of c.args.v.now) (λ x b given kind. rw (signal_register x kind) (search rules))
    ∙ ap state_of (taken_held c.args.v.now _)
