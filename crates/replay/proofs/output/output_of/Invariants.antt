use Rattle.std.proofs.Common.{◌≡◌, ◌++◌, drop, string_bytes}
use Rattle.dealer.specs.Plans.{single}
use Rattle.world_state.specs.Steps.{dealing_of}
use Rattle.replay.specs.Outputs.{run_output, script_output}
use Rattle.replay.proofs.output.output_of.Given as goal

-- what was written, and then what the steps that are left write, is the whole
abbrev pub invariant-loop-step : goal.invariant-loop-step
invariant-loop-step l = record {
  plans : l.world.plans ≡ single l.fn.plan;
  output : string_bytes l.text ++ run_output (dealing_of (single l.fn.plan)) (drop l.step-index l.script.steps) l.world.state ≡ script_output l.fn.plan l.script;
}
