use Rattle.std.proofs.Common.{◌≡◌, Err}
use Rattle.qlock_plan_c.specs.Calls.{IsNamesText}
use Rattle.qlock_plan_c.specs.Outputs.{output}
use Rattle.plan_inputs.specs.Inputs.{coterie_in}
use Rattle.qlock_plan_c.proofs.CallLemmas.{fault_written}
use Rattle.qlock_plan_c.proofs.planning_calls.names.Goals as goal

pub returns-in-Err : goal.returns-in-Err
returns-in-Err c =
    fault_written (IsNamesText c.args.coterie.now) (λ fault. coterie_in c.args.coterie.now ≡ Err fault)
    (output c.args.out.now c.put_fault.new.out c.args.written.now c.put_fault.new.written)
    c.in-Err.fault c.put_fault.result c.in-Err.ensures.exact c.put_fault.ensures
