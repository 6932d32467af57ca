use Rattle.std.proofs.Common.{◌≡◌, Err, arith}
use Rattle.qlock_plan_c.specs.Outputs.{output}
use Rattle.plan_inputs.specs.Inputs.{IsWeightsText, coterie_in}
use Rattle.qlock_plan_c.proofs.CallLemmas.{WeightsCall-TextCall, fault_written}
use Rattle.qlock_plan_c.proofs.planning_calls.weights_call.Goals as goal

pub returns-in-Err : goal.returns-in-Err
returns-in-Err c =
    let o = output c.args.out.now c.put_fault.new.out c.args.written.now c.put_fault.new.written in
    WeightsCall-TextCall c.args.coterie.now c.args.most o c.put_fault.result (omega arith, omega arith)
    (fault_written (IsWeightsText c.args.coterie.now c.args.most) (λ fault. coterie_in c.args.coterie.now ≡ Err fault) o
    c.in-Err.fault c.put_fault.result c.in-Err.ensures c.put_fault.ensures)
