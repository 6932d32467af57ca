-- A lemma on the output of `run`.
use Rattle.std.proofs.Common.{◌≡◌, ℕ, List, Ok, subst, sym}
use Rattle.run_outcome.specs.declared.record.RunRecord.{RunRecord}
use Rattle.replay.specs.Records.{entries_of}
use Rattle.replay.specs.RecordTexts.{record_text}
use Rattle.replay.specs.Runs.{IsRun}
use Rattle.plan_inputs.specs.Inputs.{PlannedSystem}
use Rattle.commands.specs.Commands.{IsAnswer, IsRunText, planned_in}
use Rattle.command_line.specs.declared.command.Command.{Command}
use Rattle.command_line.specs.declared.command.Command.TheVariants as commands

-- the text of the record of a run is an output of the command `run`
pub run_is_answer : (command : Command) (clients passes turns : ℕ) (input output : List ℕ) (planned : PlannedSystem) (run : RunRecord) → command ≡ commands.Run clients passes turns
    → planned_in input ≡ Ok planned
    → IsRun planned.plan clients passes run → output ≡ record_text (entries_of run) → IsAnswer command input output
run_is_answer command clients passes turns input output planned run is parts is_run written =
    let text : IsRunText clients passes input output = record { planned = planned; parts = parts; run = run; is_run = is_run; written = written } in
    subst (λ (k : Command). IsAnswer k input output) (sym is) text
