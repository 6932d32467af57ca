use Rattle.plan_inputs.specs.Inputs.{parts_of}
use Rattle.show_refusals.proofs.page.read_run_input.Goals as goal

pub returns-clause-taken : goal.returns-clause-taken
returns-clause-taken c = (parts_of c.in-Ok.planned, c.in-Ok.ensures.exact)
