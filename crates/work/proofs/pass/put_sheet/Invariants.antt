-- A pass over a sheet, signal by signal, whichever two sheets it is a side of. Assumes nothing.
use mathlib.Core.Path.{◌≡◌}
use lib.ListN.{length}
use Rattle.meaning.specs.Sheet as paper
use Rattle.lists.specs.Recipes.{Side}
use Rattle.work.specs.Passes.{SideAsks}
use Rattle.work.proofs.Passing.{Passing}
use Rattle.work.proofs.pass.put_sheet.Given as goal

abbrev pub invariant-loop-v : goal.invariant-loop-v
invariant-loop-v l =
    let w = l.initial.table.words.now in
    let a = l.initial.table.head in
    record {
      same_reference : l.table.words.ghost_name ≡ l.initial.table.words.ghost_name;
      passing : (A B : paper.Sheet) (d : Side) → SideAsks A B d l.p l.fn.s w a (length l.initial.ids)
          → Passing A B d l.p l.fn.s w a l.initial.ids l.table.words.now l.table.head l.here l.ids l.v;
    }
