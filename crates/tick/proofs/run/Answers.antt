-- The sheet is read first, then the result's room and the vectors are judged, and only then are the ticks run. Assumes nothing.
use native.Mathlib.Omega.{arith}
use Rattle.std.proofs.Common.{rules}
use Rattle.std.proofs.lemmas.Result.{err_from_is_err_and}
use Rattle.answer.specs.declared.File.TheVariants.{A}
use Rattle.answer.specs.Meant.{refused_in}
use Rattle.sheet.proofs.Files.{reads_whole, reads_ok, reads_err}
use Rattle.tick.proofs.Vectors.{vector_bad, vectors_good}
use Rattle.tick.proofs.Outcome.{ran-refused, ran_out, ran_vector, ran-wrote}
use Rattle.tick.proofs.run.Goals as goal

pub returns-in_err-s : goal.returns-in_err-s
returns-in_err-s c =
    let p = err_from_is_err_and c.from_residual.result c.from_residual.ensures.1 in
    let m = reads_err _ c.read_sheet.ensures c.map_err.ensures.cases (λ e. refused_in e A) (λ e d q. search rules) c.in_err-s.was in
    rw (p.1, p.2, m.1) (ran-refused _ _ _ m.0 m.2)

pub returns-then-res-needed : goal.returns-then-res-needed
returns-then-res-needed c =
    ran_out _ _ _ _ (reads_ok _ c.read_sheet.ensures c.map_err.ensures.cases c.in_ok-s.was) c.if-res-needed.true

pub bad_vector-requires : goal.bad_vector-requires
bad_vector-requires c =
    omega (arith, (reads_whole (reads_ok _ c.read_sheet.ensures c.map_err.ensures.cases c.in_ok-s.was)).kept.few_inputs)

pub returns-in-Some : goal.returns-in-Some
returns-in-Some c =
    let bad = vector_bad _ _ _ c.in-Some.ensures in
    ran_vector _ _ _ _ (reads_ok _ c.read_sheet.ensures c.map_err.ensures.cases c.in_ok-s.was) c.if-res-needed.false _ bad.0 bad.1

pub ticks-requires : goal.ticks-requires
ticks-requires c = record {
  whole = reads_whole (reads_ok _ c.read_sheet.ensures c.map_err.ensures.cases c.in_ok-s.was);
  vectors_in_bounds = c.if-res-needed.false;
  vectors_len_bound = vectors_good _ _ c.in_default.ensures;
}

pub returns : goal.returns
returns c =
    ran-wrote _ _ _ _ (reads_ok _ c.read_sheet.ensures c.map_err.ensures.cases c.in_ok-s.was) c.if-res-needed.false _
    (vectors_good _ _ c.in_default.ensures) c.ticks.ensures
