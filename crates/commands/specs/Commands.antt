-- What each command writes, as a function of its input.
use Rattle.std.specs.Prelude.{◌≡◌, ℕ, Bool, true, false, ◌*◌, ◌<◌, ◌≤◌, List, [], ◌∷◌, ◌++◌, length, codes, slice_index, IfSome, Option, Result, Ok, Err, ⊤, if◌then◌else◌}
use Rattle.std.specs.List.{flat_map, range_with_len}
use Rattle.std.specs.Fmt.{decimal}
use Rattle.std.specs.Io.KnownBytes.{Appends, IsAtEnd, Keeps}
use Rattle.numbers.specs.Bounds.{max_clients}
pub use Rattle.numbers.specs.Results.{◌>>=◌}
use Rattle.numbers.specs.Results.{RefusesUnless, GivesUnless}
use Rattle.quorum_set.specs.Capacities.{are_unit, unit_capacities}
use Rattle.quorum_set.specs.Coteries.{QuorumSystem}
use Rattle.construct.specs.Cyclic.{cyclic_at}
use Rattle.construct.specs.Grid.{grid_at}
use Rattle.construct.specs.Majority.{majority_at}
use Rattle.construct.specs.Tree.{tree_at}
use Rattle.construct.specs.Wheel.{wheel_at}
use Rattle.construct.specs.declared.fault.ConstructFault.{ConstructFault}
use Rattle.coterie_file.specs.Named.{NamedSystem, numbered_names}
use Rattle.coterie_file.specs.Writing.{coterie_text}
use Rattle.coterie_file.specs.Names.{name_at}
use Rattle.certificate.specs.Certificates.{Weighted, cycle_len, load_of}
use Rattle.plan_inputs.specs.Faults.{refused_as}
use Rattle.plan_inputs.specs.Inputs.{IsPlanText, PlannedSystem, RefusesToPlan, WeighedSystem, coterie_in, planned_by, weighed_by}
use Rattle.dealer.specs.Cycles.{quorum_of_ticket}
use Rattle.dealer.specs.Accounts.{account_of}
use Rattle.dealer.specs.declared.account.Account.{Account}
use Rattle.dealer.specs.declared.receipt.Receipt.{Receipt}
use Rattle.replay.specs.Outputs.{IsOutput}
use Rattle.replay.specs.Records.{Entries, IsFirstFault, IsSoundRecord, entries_of, tickets_of}
use Rattle.replay.specs.RecordTexts as record_texts
use Rattle.replay.specs.RecordTexts.{HasText, record_text}
use Rattle.replay.specs.Scripts.{IsFirstBad, step_form}
use Rattle.replay.specs.declared.fault.ReplayFault.{ReplayFault}
use Rattle.replay.specs.declared.fault.ReplayFault.TheVariants as replay
use Rattle.replay.specs.declared.fault.ReplayFault.TheVariants.{BadLine}
use Rattle.run_outcome.specs.declared.fault.ClusterFault.{ClusterFault}
use Rattle.run_outcome.specs.declared.record.RunRecord.{RunRecord}
use Rattle.replay.specs.Runs.{AreLet, IsRun}
use Rattle.run_outcome.specs.Refusals.{EndsRunBy}
use Rattle.whole_io.specs.Devices.{AppendsBeginning}
use Rattle.whole_io.specs.declared.fault.DeviceFault.TheVariants.{ReadFault, TooLong, WriteFault}
use Rattle.commands.specs.Parts.{split}
use Rattle.commands.specs.declared.fault.Fault.{Fault}
use Rattle.commands.specs.declared.fault.Fault.TheVariants as faults
use Rattle.commands.specs.declared.fault.Fault.TheVariants.{Device, OutOfMemory, Construct, Input}
use Rattle.command_line.specs.declared.command.Command.{Command}
use Rattle.command_line.specs.declared.command.Command.TheVariants.{Check, Deal, Make, Plan, Replay, Run, World}
use Rattle.command_line.specs.declared.command.Shape.{Shape}
use Rattle.command_line.specs.declared.command.Shape.TheVariants.{Cyclic, Grid, Majority, Tree, Wheel}

-- Steps that may fail

-- the fault is out of memory
abbrev pub is_out_of_memory : Fault → Bool
is_out_of_memory OutOfMemory = true
is_out_of_memory fault = false

-- the fault is out of memory, or the wanted result is this fault
abbrev pub Refuses : {Y : Type 0} → Fault → Result Y Fault → Type 0
Refuses fault wanted = RefusesUnless is_out_of_memory fault wanted

-- the result, mapped by `view`, is the wanted one, unless memory ran out
abbrev pub Gives : {X Y : Type 0} → (X → Y) → Result X Fault → Result Y Fault → Type 0
Gives view result wanted = GivesUnless is_out_of_memory view result wanted

-- Parts

-- the coterie that a part describes
abbrev pub coterie_part : List ℕ → Result NamedSystem Fault
coterie_part bytes = refused_as Input (coterie_in bytes)

-- what two parts describe: a coterie, and a plan of it
abbrev pub planned_parts : List ℕ → List ℕ → Result PlannedSystem Fault
planned_parts coterie plan = refused_as Input (planned_by coterie plan)

-- what an input of two parts describes: a coterie, and a plan of it
unfoldable pub planned_in : List ℕ → Result PlannedSystem Fault
planned_in input = do
  parts ← split 2 input
  planned_parts parts.0 parts.1

-- what two parts describe: a coterie, and weights of it
abbrev pub weighed_from : List ℕ → List ℕ → Result WeighedSystem Fault
weighed_from coterie weights = refused_as Input (weighed_by coterie weights)

-- what an input of two parts describes: a coterie, and weights of it
unfoldable pub weighed_in : List ℕ → Result WeighedSystem Fault
weighed_in input = do
  parts ← split 2 input
  weighed_from parts.0 parts.1

-- what an input of three parts describes: a coterie, a plan of it, and a text after them
unfoldable pub staged_in : List ℕ → Result (PlannedSystem × List ℕ) Fault
staged_in input = do
  parts ← split 2 input
  others ← split 3 parts.1
  planned ← planned_parts parts.0 others.0
  Ok (planned, others.1)

-- Lines

-- the line of a ticket and its quorum; 10 is a newline, 32 a space, 47 a slash
abbrev pub ticket_line : Weighted → ℕ → List ℕ
ticket_line w ticket = decimal ticket ++ (32 ∷ (decimal (quorum_of_ticket w ticket) ++ 10 ∷ []))

-- the same for a ticket that was drawn
abbrev pub receipt_line : Receipt → List ℕ
receipt_line r = decimal r.ticket ++ (32 ∷ (decimal r.quorum ++ 10 ∷ []))

-- the line of a voter: its name, and how often it was used
abbrev pub voter_line : List ℕ → ℕ → List ℕ
voter_line name count = codes "voter " ++ (name ++ (32 ∷ (decimal count ++ 10 ∷ [])))

-- the line of the busiest voter: how often it was used
abbrev pub busiest_line : ℕ → List ℕ
busiest_line count = codes "busiest " ++ (decimal count ++ 10 ∷ [])

-- the line of a ratio
abbrev pub ratio_line : ℕ × ℕ → List ℕ
ratio_line ratio = codes "ratio " ++ (decimal ratio.0 ++ (47 ∷ (decimal ratio.1 ++ 10 ∷ [])))

-- the line of the number of tickets that were drawn
abbrev pub drawn_line : ℕ → List ℕ
drawn_line count = codes "drawn " ++ (decimal count ++ 10 ∷ [])

-- the line of the register
abbrev pub register_line : ℕ → List ℕ
register_line number = codes "register " ++ (decimal number ++ 10 ∷ [])

-- the line of a load and the length of a cycle
abbrev pub load_line : ℕ × ℕ → ℕ → List ℕ
load_line load cycle =
    codes "load " ++ (decimal load.0 ++ (47 ∷ (decimal load.1 ++ (codes " cycle " ++ (decimal cycle ++ 10 ∷ [])))))

-- Texts

-- a line for each ticket below n
abbrev pub ticket_lines : Weighted → ℕ → List ℕ
ticket_lines w n = flat_map (ticket_line w) (range_with_len 0 n)

-- a line for each voter, with its name and how often it was used
abbrev pub voter_lines : List (List ℕ) → List ℕ → List ℕ
voter_lines names counts =
    flat_map (λ i. voter_line (name_at names i) (slice_index counts i)) (range_with_len 0 (length names))

-- the lines of an account
abbrev pub account_text : List (List ℕ) → Account → List ℕ
account_text names account = voter_lines names account.voters ++ busiest_line account.busiest

-- the line of an account's ratio, if some capacity is not 1
abbrev pub ratio_part : List ℕ → Account → List ℕ
ratio_part capacities account = if are_unit capacities then [] else ratio_line account.ratio

-- the tickets below n with their quorums, their account, and its ratio if some capacity is not 1
unfoldable pub deal_text : PlannedSystem → ℕ → List ℕ
deal_text p n =
    let account = account_of p.plan (range_with_len 0 n) in
    ticket_lines p.plan n ++ (account_text p.named.names account ++ ratio_part p.named.capacities account)

-- the lines of a record: how many tickets were drawn, their account, and the register
abbrev pub record_lines : NamedSystem → Account → ℕ → List ℕ
record_lines named account register =
    drawn_line account.drawn ++ (account_text named.names account ++ register_line register)

-- the lines of a record's entries: of the tickets that were drawn, and of the register
abbrev pub replay_text : PlannedSystem → Entries → List ℕ
replay_text p e = record_lines p.named (account_of p.plan (tickets_of e.draws)) e.register

-- the text that `check` writes
unfoldable pub check_text : PlannedSystem → List ℕ
check_text p = load_line (load_of p.plan) (cycle_len p.plan)

-- Commands

-- the coterie of a shape and its sizes
abbrev pub shape_at : Shape → Result QuorumSystem ConstructFault
shape_at (Grid r c) = grid_at r c
shape_at (Majority n) = majority_at n
shape_at (Tree h) = tree_at h
shape_at (Wheel k) = wheel_at k
shape_at (Cyclic n base) = cyclic_at n base.items

-- the text of a coterie whose voters have numbered names
abbrev pub numbered_text : QuorumSystem → List ℕ
numbered_text system =
    coterie_text (record {
      system = system;
      names = numbered_names system.voters;
      capacities = unit_capacities system.voters;
    })

-- what `make` writes, or its fault
abbrev pub make_answer_of : Shape → Result (List ℕ) Fault
make_answer_of shape = refused_as Construct (shape_at shape) >>= λ system. Ok (numbered_text system)

-- what `check` writes, or its fault
abbrev pub check_answer_of : List ℕ → Result (List ℕ) Fault
check_answer_of input = planned_in input >>= λ p. Ok (check_text p)

-- what `deal` writes, or its fault
abbrev pub deal_answer_of : ℕ → List ℕ → Result (List ℕ) Fault
deal_answer_of n input = planned_in input >>= λ p. Ok (deal_text p n)

-- `plan` fails with this fault for the input: the input describes no coterie, or there is no plan of it
abbrev pub RefusesPlan : List ℕ → Fault → Type 0
RefusesPlan input (Input fault) = RefusesToPlan input fault
RefusesPlan input fault = ⊥

-- the output is that of the script in the third part, by the plan that the parts before it describe
pub record IsWorldOutput (input output : List ℕ) : Type 0 where
  pub planned : PlannedSystem
  pub script : List ℕ
  pub parts : staged_in input ≡ Ok (planned, script)
  pub output_is : IsOutput planned.plan script output

-- this line of the third part is the first bad line of a script
pub record IsBadScript (input : List ℕ) (line : ℕ) : Type 0 where
  pub planned : PlannedSystem
  pub script : List ℕ
  pub parts : staged_in input ≡ Ok (planned, script)
  pub bad : IsFirstBad step_form script line

-- `world` fails with this fault for the input: a part is missing or has a fault, or the third one
-- is no script
abbrev pub RefusesToRunWorld : List ℕ → Fault → Type 0
RefusesToRunWorld input (faults.Replay (BadLine line)) = IsBadScript input line
RefusesToRunWorld input (faults.Replay fault) = ⊥
RefusesToRunWorld input fault = staged_in input ≡ Err fault

-- the text is that of a sound record by the plan, and the output is what the record says
pub record IsReplayedText (p : PlannedSystem) (text output : List ℕ) : Type 0 where
  pub entries : Entries
  pub has_text : HasText entries
  pub written : text ≡ record_text entries
  pub sound : IsSoundRecord p.plan entries
  pub output_is : output ≡ replay_text p entries

-- so is the third part, by the plan that the parts before it describe
pub record IsReplayed (input output : List ℕ) : Type 0 where
  pub planned : PlannedSystem
  pub text : List ℕ
  pub parts : staged_in input ≡ Ok (planned, text)
  pub replayed : IsReplayedText planned text output

-- the text is that of a record, and this is the record's first fault by the plan
abbrev pub IsUnsoundText : Weighted → List ℕ → ReplayFault → Type 0
IsUnsoundText plan text fault = (e : Entries) × HasText e × (text ≡ record_text e) × IsFirstFault plan e fault

-- the text of a record fails with this fault: it is the first bad line, or the record's first fault
abbrev pub IsBadRecordText : Weighted → List ℕ → ReplayFault → Type 0
IsBadRecordText plan text (BadLine line) = record_texts.IsFirstBad text line
IsBadRecordText plan text replay.OutOfMemory = ⊥
IsBadRecordText plan text fault = IsUnsoundText plan text fault

-- the record in the third part fails with this fault
pub record HasBadRecord (input : List ℕ) (fault : ReplayFault) : Type 0 where
  pub planned : PlannedSystem
  pub text : List ℕ
  pub parts : staged_in input ≡ Ok (planned, text)
  pub bad : IsBadRecordText planned.plan text fault

-- `replay` fails with this fault for the input: a part is missing or has a fault, or the record has
-- one
abbrev pub RefusesToReplay : List ℕ → Fault → Type 0
RefusesToReplay input (faults.Replay fault) = HasBadRecord input fault
RefusesToReplay input fault = staged_in input ≡ Err fault

-- The input describes a coterie and a plan of it. The output is the text of a record by that plan,
-- of a run in which each of `clients` clients made `passes` passes. Each client has a ticket and a
-- pass number for each of its passes.
pub record IsRunText (clients passes : ℕ) (input output : List ℕ) : Type 0 where
  pub planned : PlannedSystem
  pub parts : planned_in input ≡ Ok planned
  pub run : RunRecord
  pub is_run : IsRun planned.plan clients passes run
  pub written : output ≡ record_text (entries_of run)

-- a run by the plan that the input describes ends early with this fault
pub record IsEndedRun (clients : ℕ) (input : List ℕ) (fault : ClusterFault) : Type 0 where
  pub planned : PlannedSystem
  pub parts : planned_in input ≡ Ok planned
  pub ended : EndsRunBy clients fault

-- `run` fails with this fault for the input: a part is missing or has a fault, or the run ends
-- early
abbrev pub IsRunRefusal : ℕ → List ℕ → Fault → Type 0
IsRunRefusal clients input (faults.Cluster fault) = IsEndedRun clients input fault
IsRunRefusal clients input fault = planned_in input ≡ Err fault

-- `execute` serves each command except `run`
abbrev pub IsServed : Command → Type 0
IsServed (Run clients passes turns) = ⊥
IsServed command = ⊤

-- `execute_run` serves `run`, with 1 to 64 clients and at most 1000 passes
abbrev pub IsRunnable : Command → Type 0
IsRunnable (Run clients passes turns) = (1 ≤ clients) × (clients ≤ max_clients) × (passes ≤ 1000)
IsRunnable command = ⊥

-- the gate lets each client of a run pass, if any passes are to be made
abbrev pub LetsAll : (ℕ → Bool) → Command → Type 0
LetsAll lets (Run clients passes turns) = 0 < passes → AreLet lets clients
LetsAll lets command = ⊤

-- a run has at least two turns for each pass of a client
abbrev pub HasTurns : Command → Type 0
HasTurns (Run clients passes turns) = 2 * passes ≤ turns
HasTurns command = ⊤

-- `execute` or `execute_run` serves the command
abbrev pub IsInRange : Command → Type 0
IsInRange (Run clients passes turns) = IsRunnable (Run clients passes turns)
IsInRange command = ⊤

-- the command writes this output for the input
abbrev pub IsAnswer : Command → List ℕ → List ℕ → Type 0
IsAnswer (Make shape) input output = make_answer_of shape ≡ Ok output
IsAnswer Plan input output = IsPlanText input output
IsAnswer Check input output = check_answer_of input ≡ Ok output
IsAnswer (Deal n) input output = deal_answer_of n input ≡ Ok output
IsAnswer World input output = IsWorldOutput input output
IsAnswer (Run clients passes turns) input output = IsRunText clients passes input output
IsAnswer Replay input output = IsReplayed input output

-- the command fails with this fault for the input
abbrev pub IsRefusal : Command → List ℕ → Fault → Type 0
IsRefusal (Make shape) input fault = make_answer_of shape ≡ Err fault
IsRefusal Plan input fault = RefusesPlan input fault
IsRefusal Check input fault = check_answer_of input ≡ Err fault
IsRefusal (Deal n) input fault = deal_answer_of n input ≡ Err fault
IsRefusal World input fault = RefusesToRunWorld input fault
IsRefusal (Run clients passes turns) input fault = IsRunRefusal clients input fault
IsRefusal Replay input fault = RefusesToReplay input fault

-- the fault is out of memory, or the command fails with it for the input
abbrev pub IsRefusedBy : Command → List ℕ → Fault → Type 0
IsRefusedBy command input OutOfMemory = Unit {0}
IsRefusedBy command input fault = IsRefusal command input fault

-- the result is what the command writes for the input, or its fault for the input, or out of memory
abbrev pub IsAnswered : {X : Type 0} → (X → List ℕ) → Command → List ℕ → Result X Fault → Type 0
IsAnswered view command input (Ok x) = IsAnswer command input (view x)
IsAnswered view command input (Err fault) = IsRefusedBy command input fault

-- whether a command reads its input; `make` doesn't
abbrev pub reads_input : Command → Bool
reads_input (Make shape) = false
reads_input command = true

-- nothing is left of the input, if the command reads it
abbrev pub EndsAfter : Command → Option (List ℕ) → Type 0
EndsAfter (Make shape) bytes = ⊤
EndsAfter command bytes = IsAtEnd bytes

-- the input is not too long, if the command reads it
abbrev pub IsShortFor : Command → List ℕ → Type 0
IsShortFor command input = reads_input command ≡ true → length input ≤ 16777216

-- the command's output for the input was written after what was there
abbrev pub Answers : Command → List ℕ → Option (List ℕ) → Option (List ℕ) → Type 0
Answers command input old new =
    IsShortFor command input × ((output : List ℕ) × IsAnswer command input output × Appends old new output)

-- a beginning of the command's output for the input was written after what was there
abbrev pub BeginsAnswer : Command → List ℕ → Option (List ℕ) → Option (List ℕ) → Type 0
BeginsAnswer command input old new =
    IsShortFor command input × ((output : List ℕ) × IsAnswer command input output × AppendsBeginning old new output)

-- What is written after a fault. After a failed write it is a beginning of the output for the
-- input, if the input is known, added to what was there. After any other fault it is what was
-- there.
abbrev pub LeavesWritten : Command → Option (List ℕ) → Fault → Option (List ℕ) → Option (List ℕ) → Type 0
LeavesWritten command bytes (Device WriteFault) old new = IfSome bytes (λ input. BeginsAnswer command input old new)
LeavesWritten command bytes fault old new = Keeps old new

-- The fault is possible for the input: the input is too long, or the command fails with this fault
-- for it. A device or memory may fail whatever the input is.
abbrev pub ComesOf : Command → List ℕ → Fault → Type 0
ComesOf command input (Device TooLong) = (reads_input command ≡ true) × (16777216 < length input)
ComesOf command input (Device ReadFault) = reads_input command ≡ true
ComesOf command input (Device WriteFault) = (output : List ℕ) × IsAnswer command input output
ComesOf command input OutOfMemory = ⊤
ComesOf command input fault = IsShortFor command input × IsRefusal command input fault
