-- One more record: a register and an output name a signal, any other does not. Assumes nothing.
use Rattle.std.proofs.Common.{◌≡◌, rules}
use Rattle.sheet.specs.declared.kind.Kind.TheVariants.{Register}
use Rattle.sheet.proofs.Added.{register_names, added-gate, added-register, added_output}
use Rattle.sheet.proofs.reader.Part.add.Goals as goal

pub push_name-requires : goal.push_name-requires
push_name-requires c =
    let r : c.in-Signal.x.kind ≡ Register = search rules in
    register_names c.requires.0 c.in-Signal.x (rw c.in-Signal.is at c.requires.1) r

pub returns-then-eq : goal.returns-then-eq
returns-then-eq c =
    let r : c.in-Signal.x.kind ≡ Register = search rules in
    rw (c.in-Signal.is, c.push_name.ensures, c.push_signal.ensures) (added-register c.requires.0 c.in-Signal.x (rw c.in-Signal.is at c.requires.1) r c.args.at)

pub returns-else-eq : goal.returns-else-eq
returns-else-eq c =
    let r : c.in-Signal.x.kind ≡ Register → ⊥ = search rules in
    rw (c.in-Signal.is, c.push_signal.ensures) (added-gate c.requires.0 c.in-Signal.x (rw c.in-Signal.is at c.requires.1) r c.args.at)

pub returns-in-Output : goal.returns-in-Output
returns-in-Output c =
    rw (c.in-Output.is, c.push_name-in-Output.ensures, c.push_output.ensures) (added_output c.requires.0 c.in-Output.o (rw c.in-Output.is at c.requires.1) c.args.at)
