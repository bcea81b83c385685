-- After v signals q is the id of the product of their equalities. Assumes nothing.
use mathlib.Core.Path.{◌≡◌}
use Rattle.fill.proofs.Equalled.{Equalled}
use Rattle.fill.proofs.put_equals.Given as goal

abbrev pub invariant-loop-v : goal.invariant-loop-v
invariant-loop-v l = record {
  same_reference : l.table.words.ghost_name ≡ l.initial.table.words.ghost_name;
  equalled : Equalled l.initial.table.words.now l.initial.table.head l.g l.h l.left l.table.words.now l.table.head l.q l.v;
}
