-- The figures of the first numbers stand in the line. Assumes nothing.
use Rattle.std.proofs.Common.{◌≡◌, ◌++◌, ◌*◌, ◌+◌, ◌≤◌, take}
use Rattle.arrayvec.specs.ArrayString.{array_string_len}
use Rattle.desk.specs.Line.{figures}
use Rattle.desk.proofs.line.push_figures.Given as goal

abbrev pub invariant-loop-n : goal.invariant-loop-n
invariant-loop-n l = record {
  bytes : l.line.bytes ≡ l.initial.line.bytes ++ figures (take l.n-index l.numbers);
  few : array_string_len l.line ≤ array_string_len l.initial.line + 21 * l.n-index;
}
