-- The output of a script: for each step in order, what it sent and who entered or left, or why it
-- was refused.
use Rattle.std.specs.Prelude.{ℕ, ◌≡◌, ◌+◌, Bool, true, false, List, [], ◌∷◌, ◌++◌, length, drop, codes, Result, Ok, Err}
use Rattle.std.specs.List.{flat_map}
use Rattle.std.specs.Fmt.{decimal}
use Rattle.certificate.specs.Certificates.{Weighted}
use Rattle.message.specs.declared.message.Message.{Message}
use Rattle.message.specs.Lines.{message_line}
use Rattle.requester.specs.declared.fault.ClientFault.{ClientFault}
use Rattle.requester.specs.declared.fault.ClientFault.TheVariants.{Busy, NotInside, NotAsking, StampsSpent}
use Rattle.world_state.specs.declared.fault.WorldFault.{WorldFault}
use Rattle.world_state.specs.declared.fault.WorldFault.TheVariants.{NoSuchMessage, NoSuchClient, NoSuchVoter, NoSecondPlan, Client, Voter, OutOfMemory}
use Rattle.world_state.specs.declared.step.Event.{Event}
use Rattle.world_state.specs.declared.step.Step.{Step}
use Rattle.world.specs.Runs.{after, start_by}
use Rattle.dealer.specs.Plans.{single}
use Rattle.world_state.specs.Steps.{Dealing, Outcome, WorldState, dealing_of, step}
use Rattle.replay.specs.Scripts.{IsScript, Script, script_text, step_form}

-- Lines; 10 is a newline, 32 a space

-- the line of a message with this number
abbrev pub sent_line : ℕ → Message → List ℕ
sent_line number message = codes "m " ++ (decimal number ++ (32 ∷ (message_line message ++ 10 ∷ [])))

-- the lines of these messages, numbered from here on
abbrev pub sent_lines : ℕ → List Message → List ℕ
sent_lines number [] = []
sent_lines number (m ∷ ms) = sent_line number m ++ sent_lines (number + 1) ms

-- the first word of an event's line: whether the client entered or left
abbrev pub event_word : Bool → List ℕ
event_word true = codes "enter "
event_word false = codes "leave "

-- the line of a client that entered or left
abbrev pub event_line : Event → List ℕ
event_line e = event_word e.entered ++ (decimal e.client ++ 10 ∷ [])

-- the text of a client's fault
abbrev pub client_fault_text : ClientFault → List ℕ
client_fault_text Busy = codes "C1 Busy"
client_fault_text NotInside = codes "C2 NotInside"
client_fault_text NotAsking = codes "C3 NotAsking"
client_fault_text StampsSpent = codes "C4 StampsSpent"

-- the text of a fault: its code, name and argument
abbrev pub fault_text : WorldFault → List ℕ
fault_text (NoSuchMessage number) = codes "U1 NoSuchMessage " ++ decimal number
fault_text (NoSuchClient client) = codes "U2 NoSuchClient " ++ decimal client
fault_text (NoSuchVoter voter) = codes "U3 NoSuchVoter " ++ decimal voter
fault_text NoSecondPlan = codes "U4 NoSecondPlan"
fault_text (Client fault) = client_fault_text fault
fault_text (Voter fault) = codes "V1 GrantsSpent"
fault_text OutOfMemory = codes "O1 OutOfMemory"

-- the line of a refused step, with the text of its fault
abbrev pub refusal_of : List ℕ → List ℕ
refusal_of fault = codes "! " ++ (fault ++ 10 ∷ [])

-- Steps

-- What a step writes, given the world before it: the messages that it sent, and who entered or
-- left. A refused step writes its fault.
abbrev pub step_output : WorldState → Result Outcome WorldFault → List ℕ
step_output w (Ok o) =
    sent_lines (length w.sent) (drop (length w.sent) o.state.sent)
    ++ flat_map event_line (drop (length w.visible) o.state.visible)
step_output w (Err fault) = refusal_of (fault_text fault)

-- what the steps write, one after the other
abbrev pub run_output : Dealing → List Step → WorldState → List ℕ
run_output deal [] w = []
run_output deal (s ∷ steps) w = step_output w (step deal w s) ++ run_output deal steps (after w (step deal w s))

-- what a script writes, with quorums by the plan
abbrev pub script_output : Weighted → Script Step → List ℕ
script_output plan s = run_output (dealing_of (single plan)) s.steps (start_by (single plan) s.clients s.limit)

-- the output is that of the script whose text this is
pub record IsOutput (plan : Weighted) (text output : List ℕ) : Type 0 where
  pub script : Script Step
  pub is_script : IsScript step_form script
  pub written : text ≡ script_text step_form script
  pub output_is : output ≡ script_output plan script
