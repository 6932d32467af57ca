use Rattle.std.proofs.Common.{ap, ◌∙◌}
use Rattle.coterie_file.specs.Reading.{coterie_at}
use Rattle.plan_inputs.specs.Faults.{refused_as}
use Rattle.plan_inputs.specs.declared.fault.InputFault.TheVariants.{File}
use Rattle.plan_inputs.proofs.InputLemmas.{Refuses-file, coterie_in-read, coterie_in-refused}
use Rattle.plan_inputs.proofs.reading.coterie_of.Goals as goal

pub returns-in_default-clause-exact : goal.returns-in_default-clause-exact
returns-in_default-clause-exact c = coterie_in-refused c.args.text.now c.in_default.ensures.cases.0

pub returns-in-Ok-read_coterie-clause-exact : goal.returns-in-Ok-read_coterie-clause-exact
returns-in-Ok-read_coterie-clause-exact c =
    coterie_in-read c.args.text.now c.in-Ok.text.now c.in-Ok.ensures.cases.0 c.in-Ok.ensures.cases.1 ∙ ap (refused_as File) c.in-Ok-read_coterie.ensures.exact

pub returns-in-Err-clause-exact : goal.returns-in-Err-clause-exact
returns-in-Err-clause-exact c =
    let part = coterie_in-read c.args.text.now c.in-Ok.text.now c.in-Ok.ensures.cases.0 c.in-Ok.ensures.cases.1 in
    rw (c.from.ensures, part) (Refuses-file c.in-Err.fault (coterie_at c.in-Ok.text.now) c.in-Err.ensures.exact)
