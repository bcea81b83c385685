-- A register's initial value is its record's first byte. Assumes nothing.
use Rattle.std.proofs.Common.{rules}
use mathlib.Core.Path.{◌∙◌, ap}
use Rattle.sheet.proofs.Right.{signal_register}
use Rattle.tick.specs.Tick.{state_of}
use Rattle.tick.proofs.Holding.{initial_of, initial_held}
use Rattle.tick.proofs.initial.Goals as goal

pub returns : goal.returns
unfolding initial_of
returns c =
    c.state_by.ensures initial_of (λ x b given kind. rw (signal_register x kind) (search rules))
    ∙ ap state_of (initial_held _)
