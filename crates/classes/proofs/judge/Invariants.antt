-- The reading goes on while the records are CLASS records, and ends where one is not. Assumes nothing.
use Rattle.classes.proofs.Judging.{Judging}
use Rattle.classes.proofs.judge.Given as goal

abbrev pub invariant-loop-count : goal.invariant-loop-count
invariant-loop-count l =
    (goal.iterator-loop-count).can_next l.count-iterator
    × (goal.iterator-loop-count).is_finite l.count-iterator
    × Judging l.n l.fn.file l.count-iterator
