-- What an input of a story describes: a coterie, a plan of it and a script, or two coteries with their
-- plans and a script; and its faults.
use Rattle.std.specs.Prelude.{◌≡◌, ◌≢◌, ℕ, List, take, slice_get, ◌⊎◌, Option, None, Some, Result, Ok, Err, ⊤}
use Rattle.quorum_set.specs.Bridges.{bridge_of}
use Rattle.quorum_set.specs.declared.fault.BridgeFault.TheVariants as bridges
use Rattle.dealer.specs.Plans.{PlanPair, both, coteries_of, single}
use Rattle.replay.specs.declared.fault.ReplayFault.TheVariants.{BadLine}
use Rattle.replay.specs.Scripts.{IsScript, Script}
use Rattle.stories.specs.Scripts.{IsFirstBad, IsTextOf}
use Rattle.stories.specs.Turns.{turn_form}
use Rattle.stories.specs.declared.turn.Turn.{Turn}
use Rattle.plan_inputs.specs.Inputs.{PlannedSystem}
use Rattle.commands.specs.Commands.{◌>>=◌, Refuses, staged_in}
use Rattle.commands.specs.Parts.{split}
use Rattle.commands.specs.declared.fault.Fault.{Fault}
use Rattle.commands.specs.declared.fault.Fault.TheVariants.{MissingPart, NotBridged, OutOfMemory, Replay, UnknownVoter}

-- a second coterie with its plan, if there is one, and a text
abbrev pub More : Type 0
More = Option PlannedSystem × List ℕ

-- the last of five parts is missing
abbrev pub of_five : Fault → Fault
of_five (MissingPart part) = MissingPart 5
of_five fault = fault

-- what the parts 3, 4 and 5 describe
abbrev pub second_of : Result (PlannedSystem × List ℕ) Fault → Result More Fault
second_of (Ok staged) = Ok (Some staged.0, staged.1)
second_of (Err fault) = Err (of_five fault)

-- three parts end the input if the third has no line `%%`
abbrev pub more_after : Result (List ℕ × List ℕ) Fault → List ℕ → Result More Fault
more_after (Ok parts) text = second_of (staged_in text)
more_after (Err fault) text = Ok (None, text)

-- what follows the first two parts
unfoldable pub more_in : List ℕ → Result More Fault
more_in text = more_after (split 4 text) text

-- the parts of an input of a story
unfoldable pub parts_in : List ℕ → Result (PlannedSystem × More) Fault
parts_in input = do
  staged ← staged_in input
  more ← more_in staged.1
  Ok (staged.0, more)

-- this place is the first at which the names differ, or one list has ended
pub record IsFirstOther (names others : List (List ℕ)) (place : ℕ) : Type 0 where
  pub before : take place names ≡ take place others
  pub other : slice_get names place ≢ slice_get others place

-- the plan alone; or both, if the coteries list the same voters and there is a bridge
abbrev pub ArePlansOf : PlannedSystem → Option PlannedSystem → PlanPair → Type 0
ArePlansOf first None plans = plans ≡ single first.plan
ArePlansOf first (Some second) plans =
    (first.named.names ≡ second.named.names) × (plans ≡ both first.plan second.plan)
    × (bridge_of first.plan.system second.plan.system ≡ Ok (coteries_of first.plan second.plan))

-- the input has these plans, and behind them the text of a story's script
pub record IsStory (input : List ℕ) : Type 0 where
  pub first : PlannedSystem
  pub more : More
  pub parts : parts_in input ≡ Ok (first, more)
  pub plans : PlanPair
  pub are_plans : ArePlansOf first more.0 plans
  pub script : Script Turn
  pub is_script : IsScript turn_form script
  pub is_text : IsTextOf more.1 script

-- Faults

-- the coteries list different voters, there is no bridge, or memory ran out
abbrev pub RefusesPair : PlannedSystem → PlannedSystem → Fault → Type 0
RefusesPair first second (UnknownVoter place) = IsFirstOther first.named.names second.named.names place
RefusesPair first second (NotBridged j k) =
    bridge_of first.plan.system second.plan.system ≡ Err (bridges.NotBridged j k)
RefusesPair first second OutOfMemory = ⊤
RefusesPair first second fault = ⊥

-- two coteries have this fault
abbrev pub RefusesPlans : PlannedSystem → Option PlannedSystem → Fault → Type 0
RefusesPlans first None fault = ⊥
RefusesPlans first (Some second) fault = RefusesPair first second fault

-- the text is no script, and this is its first bad line; or memory ran out
abbrev pub RefusesScript : List ℕ → Fault → Type 0
RefusesScript text (Replay (BadLine line)) = IsFirstBad text line
RefusesScript text OutOfMemory = ⊤
RefusesScript text fault = ⊥

-- the input has its parts, and the coteries do not go together, or the last part is no script
pub record RefusesWhole (input : List ℕ) (fault : Fault) : Type 0 where
  pub first : PlannedSystem
  pub more : More
  pub parts : parts_in input ≡ Ok (first, more)
  pub bad : RefusesPlans first more.0 fault ⊎ RefusesScript more.1 fault

-- the input has this fault: a part is missing or has it, or the parts have it together
abbrev pub RefusesStory : List ℕ → Fault → Type 0
RefusesStory input fault = Refuses fault (parts_in input) ⊎ RefusesWhole input fault
