use Rattle.qlock_plan_c.specs.Outputs.{output}
use Rattle.plan_inputs.specs.Inputs.{IsPlanText, RefusesToPlan}
use Rattle.qlock_plan_c.proofs.CallLemmas.{fault_written}
use Rattle.qlock_plan_c.proofs.planning_calls.plan_call.Goals as goal

pub returns-in-Err : goal.returns-in-Err
returns-in-Err c =
    fault_written (IsPlanText c.args.coterie.now) (RefusesToPlan c.args.coterie.now)
    (output c.args.out.now c.put_fault.new.out c.args.written.now c.put_fault.new.written)
    c.in-Err.fault c.put_fault.result c.in-Err.ensures c.put_fault.ensures
