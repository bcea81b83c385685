-- What is written takes the bytes of the signals' records, of the outputs and of END. Assumes nothing.
use mathlib.Core.Path.{◌≡◌}
use native.Mathlib.Omega.{arith}
use Rattle.std.specs.Prelude.{sum_by}
use Rattle.std.proofs.Common.{rules}
use Rattle.sheet.proofs.Sizes.{takes, sized_few, sized}
use Rattle.sheet.proofs.writer.needed.Goals as goal
use Rattle.sheet.proofs.writer.needed.Goals.{After-len}

signals : (c : After-len) → c.sum-signals.result ≡ sum_by takes c.args.s.now.signals.items
signals c = search rules

pub overflow_add-result-2 : goal.overflow_add-result-2
overflow_add-result-2 c = omega (arith, sized_few c.args.s.now (signals c) c.requires.kept, c.len.ensures.value, c.requires.kept.few_outputs)

pub returns : goal.returns
returns c = rw c.len.ensures.value (sized c.args.s.now (signals c))
