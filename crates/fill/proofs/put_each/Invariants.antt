-- After v ids what each gave stands in the array. Assumes nothing.
use mathlib.Core.Path.{◌≡◌}
use Prim.Native.Nat.{ℕ}
use lib.ListN.{length}
use Rattle.tree.specs.Tree.{Tree}
use Rattle.fill.specs.Contract.{Puts}
use Rattle.fill.proofs.Mapped.{Mapped}
use Rattle.fill.proofs.put_each.Given as goal

abbrev pub invariant-loop-v : goal.invariant-loop-v
invariant-loop-v g l =
    let w = l.initial.table.words.now in
    let a = l.initial.table.head in
    record {
      same_reference : l.table.words.ghost_name ≡ l.initial.table.words.ghost_name;
      mapped : (t : ℕ → Tree) → Puts g.F.Fn l.put w a l.ids t → Mapped w a t l.initial.out 0 (length l.ids) l.table.words.now l.table.head l.out l.v;
    }
