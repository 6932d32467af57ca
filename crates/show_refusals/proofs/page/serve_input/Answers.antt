use Rattle.std.proofs.Common.{rules}
use Rattle.show_refusals.proofs.FaultLemmas.{served_fault_comes, served_is_taken}
use Rattle.show_refusals.proofs.page.serve_input.Goals as goal

pub returns-clause-taken : goal.returns-clause-taken
returns-clause-taken c = served_is_taken c.args.command.now _ c.args.input.now _ c.requires c.in-Ok.ensures.written.1.1 (search rules)

pub returns-in-Err-clause-fault : goal.returns-in-Err-clause-fault
returns-in-Err-clause-fault c = served_fault_comes c.args.command.now _ c.args.input.now c.in-Err.fault c.in-Err.ensures.refused (search rules)
