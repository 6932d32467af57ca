-- Lemmas on the parts of an input.
use Rattle.std.proofs.Common.{◌≡◌, ℕ, List, None, Some, Ok, ◌⊎◌, inl, inr, refl, subst, sym}
use Rattle.std.specs.Bool.{OnFalse}
use Rattle.plan_inputs.specs.Faults.{is_out_of_memory}
use Rattle.plan_inputs.specs.Inputs.{PlannedSystem, RefusesToPlan}
use Rattle.plan_inputs.specs.declared.fault.InputFault.{InputFault}
use Rattle.plan_inputs.specs.declared.fault.InputFault.TheVariants as input
use Rattle.certificate.specs.Certificates.{Weighted}
use Rattle.commands.specs.Commands.{IsBadRecordText, IsInRange, IsRefusedBy, staged_in}
use Rattle.commands.specs.Faults.{input_refusal, replay_refusal}
use Rattle.replay.specs.Records.{Entries, IsFirstFault}
use Rattle.replay.specs.RecordTexts.{HasText, IsBadRecord, record_text}
use Rattle.replay.specs.Scripts.{IsBadText, step_form}
use Rattle.replay.specs.declared.fault.ReplayFault.{ReplayFault}
use Rattle.replay.specs.declared.fault.ReplayFault.TheVariants as replay
use Rattle.command_line.specs.Words.{IsNamedBy}
use Rattle.command_line.specs.declared.command.Command.{Command}
use Rattle.command_line.specs.declared.command.Command.TheVariants as commands

-- a refusal to plan is one of the command `plan`
pub planning_refused : (text : List ℕ) (fault : InputFault) → OnFalse (is_out_of_memory fault) (RefusesToPlan text fault) → IsRefusedBy commands.Plan text (input_refusal fault)
planning_refused text input.OutOfMemory e = tt
planning_refused text fault e = e

-- a refusal of the script is one of the command `world`
pub script_refused : (input script : List ℕ) (planned : PlannedSystem) (fault : ReplayFault) → staged_in input ≡ Ok (planned, script) → IsBadText step_form script fault
    → IsRefusedBy commands.World input (replay_refusal fault)
script_refused input script planned replay.OutOfMemory e h = tt
script_refused input script planned (replay.BadLine line) e h = record { planned = planned; script = script; parts = e; bad = h }
script_refused input script planned fault e h = absurd h

-- a bad line of the text of a record is a fault of it
pub bad_text : (plan : Weighted) (text : List ℕ) (fault : ReplayFault) → IsBadRecord text fault → (fault ≡ replay.OutOfMemory) ⊎ IsBadRecordText plan text fault
bad_text plan text replay.OutOfMemory h = inl refl
bad_text plan text (replay.BadLine line) h = inr h
bad_text plan text fault h = absurd h

-- so is the first fault of the record
pub unsound_text : (plan : Weighted) (text : List ℕ) (entries : Entries) (fault : ReplayFault) → HasText entries × (text ≡ record_text entries) → IsFirstFault plan entries fault
    → (fault ≡ replay.OutOfMemory) ⊎ IsBadRecordText plan text fault
unsound_text plan text entries replay.OutOfMemory is h = inl refl
unsound_text plan text entries (replay.BadLine line) is h = absurd h
unsound_text plan text entries fault is h = inr (entries, is.0, is.1, h)

-- a fault of the text of a record is a refusal of the command `replay`
pub record_refused : (input text : List ℕ) (planned : PlannedSystem) (fault : ReplayFault) → staged_in input ≡ Ok (planned, text)
    → (fault ≡ replay.OutOfMemory) ⊎ IsBadRecordText planned.plan text fault → IsRefusedBy commands.Replay input (replay_refusal fault)
record_refused input text planned fault e (inl is) = subst (λ f. IsRefusedBy commands.Replay input (replay_refusal f)) (sym is) tt
record_refused input text planned replay.OutOfMemory e (inr h) = absurd h
record_refused input text planned fault e (inr h) = record { planned = planned; text = text; parts = e; bad = h }

-- the words of a command line name a command with numbers in range
pub named_in_range : (used : _) (command : Command) → IsNamedBy used command → IsInRange command
named_in_range None (commands.Run clients passes turns) named = absurd named
named_in_range (Some rows) (commands.Run clients passes turns) named = (named.1.1, named.1.2, named.2.2)
named_in_range used command named = tt
