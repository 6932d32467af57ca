-- The code of each fault with which `qlock` refuses an input.
use Rattle.std.specs.Prelude.{ℕ, List, codes}
use Rattle.coterie_file.specs.declared.fault.FileFault.TheVariants as file
use Rattle.plan_inputs.specs.Lines.{line_of}
use Rattle.show_faults.specs.Codes.{code_in}
use Rattle.replay.specs.declared.fault.ReplayFault.{ReplayFault}
use Rattle.replay.specs.declared.fault.ReplayFault.TheVariants as replay
use Rattle.construct.specs.declared.fault.ConstructFault.{ConstructFault}
use Rattle.construct.specs.declared.fault.ConstructFault.TheVariants as construct
use Rattle.plan_inputs.specs.declared.fault.InputFault.{InputFault}
use Rattle.plan_inputs.specs.declared.fault.InputFault.TheVariants as inputs
use Rattle.commands.specs.declared.fault.Fault.{Fault}
use Rattle.commands.specs.declared.fault.Fault.TheVariants.{Construct, Input, MissingPart, NotBridged, Replay, UnknownVoter}

-- Of a fault of a coterie or a plan, or of the search for a plan: the first word of its line.
abbrev pub input_code : InputFault → List ℕ
input_code fault = code_in (line_of fault)

-- of a fault of a script or a record
abbrev pub replay_code : ReplayFault → List ℕ
replay_code (replay.TicketTwice n) = codes "A1"
replay_code (replay.TicketMissing n) = codes "A2"
replay_code (replay.WrongQuorum n) = codes "A3"
replay_code (replay.PassTwice n) = codes "A4"
replay_code (replay.PassMissing n) = codes "A5"
replay_code (replay.WrongRegister n) = codes "A6"
replay_code (replay.BadLine n) = codes "A7"
replay_code replay.OutOfMemory = codes "O1"

-- of a fault of a shape
abbrev pub construct_code : ConstructFault → List ℕ
construct_code construct.BadSize = codes "G1"
construct_code construct.TooLarge = codes "G2"
construct_code (construct.Coterie fault) = input_code (inputs.File (file.Coterie fault))
construct_code construct.OutOfMemory = codes "O1"

-- Of any fault. No input has a fault of a device or of a run, and these have the code of out of
-- memory here.
abbrev pub code_of : Fault → List ℕ
code_of (MissingPart part) = codes "I1"
code_of (UnknownVoter place) = codes "I6"
code_of (NotBridged j k) = codes "J1"
code_of (Construct fault) = construct_code fault
code_of (Input fault) = input_code fault
code_of (Replay fault) = replay_code fault
code_of fault = codes "O1"
