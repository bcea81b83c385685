-- The call, at each return. Assumes nothing.
use Rattle.std.proofs.Common.{rules}
use Rattle.answer.specs.declared.File.TheVariants.{A}
use Rattle.answer.specs.Meant.{refused_in}
use Rattle.sheet.proofs.Files.{reads_whole, reads_ok, reads_err}
use Rattle.sheet.proofs.Mapped.{exit_is}
use Rattle.sheet.proofs.Called.{called_refused, called_out, called_wrote}
use Rattle.sheet.proofs.writer.write.Goals as goal

pub returns-in_err-s : goal.returns-in_err-s
returns-in_err-s c =
    let m = reads_err _ c.read_sheet.ensures c.map_err.ensures.cases (λ e. refused_in e A) (λ e d q. search rules) c.in_err-s.was in
    rw (exit_is c.from_residual.result c.from_residual.ensures.1, m.1) (called_refused c.args.file.now c.args.res.now {e = m.0} m.2)

pub needed-n-requires : goal.needed-n-requires
needed-n-requires c = reads_whole (reads_ok _ c.read_sheet.ensures c.map_err.ensures.cases c.in_ok-s.was)

pub returns-then-res-n : goal.returns-then-res-n
returns-then-res-n c =
    called_out c.args.file.now c.args.res.now (reads_ok _ c.read_sheet.ensures c.map_err.ensures.cases c.in_ok-s.was)
    c.needed-n.ensures c.if-res-n.true

pub returns : goal.returns
returns c =
    called_wrote c.args.file.now c.args.res.now (reads_ok _ c.read_sheet.ensures c.map_err.ensures.cases c.in_ok-s.was)
    c.needed-n.ensures c.if-res-n.false c.put_sheet.ensures
