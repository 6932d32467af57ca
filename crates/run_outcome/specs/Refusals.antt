-- Why a run has no record.
use Rattle.std.specs.Prelude.{ℕ, ◌<◌}
use Rattle.board.specs.declared.fault.BoardFault.TheVariants as board
use Rattle.dealer.specs.declared.fault.DealFault.TheVariants as deal
use Rattle.requester.specs.declared.fault.ClientFault.TheVariants as client
use Rattle.run_outcome.specs.declared.fault.ClusterFault.{ClusterFault}
use Rattle.run_outcome.specs.declared.fault.ClusterFault.TheVariants as ends
use Rattle.run_outcome.specs.declared.fault.RunFault.{RunFault}
use Rattle.run_outcome.specs.declared.fault.RunFault.TheVariants.{Cluster, OutOfMemory}

-- the fault of a run; running out of memory is one fault, wherever it comes from
abbrev pub run_refusal : ClusterFault → RunFault
run_refusal (ends.Deal deal.OutOfMemory) = OutOfMemory
run_refusal (ends.Board board.OutOfMemory) = OutOfMemory
run_refusal ends.OutOfMemory = OutOfMemory
run_refusal fault = Cluster fault

-- What ends a run of `clients` clients: one of them has no stamp or no turn left, the register is
-- at its limit, or a vote is out at the end. Tickets don't run out: each client has one for each of
-- its passes.
abbrev pub EndsRunBy : ℕ → ClusterFault → Type 0
EndsRunBy clients (ends.Client client.StampsSpent) = Unit {0}
EndsRunBy clients (ends.Client client.Busy) = ⊥
EndsRunBy clients (ends.Client client.NotInside) = ⊥
EndsRunBy clients (ends.Client client.NotAsking) = ⊥
EndsRunBy clients (ends.Deal deal.QuotaSpent) = ⊥
EndsRunBy clients (ends.Deal deal.OutOfMemory) = ⊥
EndsRunBy clients (ends.Board board.RegisterFull) = Unit {0}
EndsRunBy clients (ends.Board (board.VoteOut v)) = Unit {0}
EndsRunBy clients (ends.Board (board.SeatsOut k)) = ⊥
EndsRunBy clients (ends.Board board.OutOfMemory) = ⊥
EndsRunBy clients ends.NotInside = ⊥
EndsRunBy clients (ends.TurnsSpent c) = c < clients
EndsRunBy clients ends.NoSecondPlan = ⊥
EndsRunBy clients ends.OutOfMemory = ⊥

-- what ends a run of `clients` clients, or out of memory
abbrev pub EndsRun : ℕ → RunFault → Type 0
EndsRun clients OutOfMemory = Unit {0}
EndsRun clients (Cluster fault) = EndsRunBy clients fault
