-- After v values, their bytes stand in the first places. Assumes nothing.
use Rattle.std.proofs.Common.{◌≡◌, take, map}
use Rattle.std.specs.Int.{from_bool}
use Rattle.yellopard.proofs.files.put_bytes.Given as goal

abbrev pub invariant-loop-v : goal.invariant-loop-v
invariant-loop-v l = take l.v l.bytes ≡ map from_bool (take l.v l.values)
