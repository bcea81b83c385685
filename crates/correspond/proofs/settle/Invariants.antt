-- The rounds so far. Assumes nothing.
use mathlib.Core.Path.{◌≡◌}
use Rattle.correspond.proofs.Settling.{Settling}
use Rattle.correspond.proofs.settle.Given as goal

abbrev pub invariant-loop-r : goal.invariant-loop-r
invariant-loop-r l = record {
  same_reference : l.table.words.ghost_name ≡ l.initial.table.words.ghost_name;
  settling : Settling l.p l.normals.h.now l.normals.h_next.now l.initial.g l.initial.table.words.now l.initial.table.head l.table.words.now l.g l.table.head l.r;
}
