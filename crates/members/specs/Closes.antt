-- Why a cluster is not closed.
use Rattle.std.specs.Prelude.{◌≡◌, ◌+◌, ◌<◌, ◌≤◌, List}
use Rattle.members.specs.declared.close.CloseFault.{CloseFault}
use Rattle.members.specs.declared.close.CloseFault.TheVariants.{Unready, Lost}
use Rattle.run_outcome.specs.declared.fault.ClusterFault.TheVariants as refuses
use Rattle.members.specs.Clusters.{ClusterState}
use Rattle.members.specs.Members.{MemberState}
use Rattle.members.specs.Records.{IsLoss, idle_count}

-- `Unready`: `missing` members are missing or not idle, and all that were handed in are returned.
-- `Lost`: none is missing or not idle, and a vote is out or memory ran out.
abbrev pub RefusesClose : {N : Type 0} → ClusterState → List MemberState → CloseFault N → Type 0
RefusesClose c members (Unready cluster back missing) =
    (back.items ≡ members) × (0 < missing) × (idle_count members + missing ≡ c.board.clients)
RefusesClose c members (Lost (refuses.Board fault)) = IsLoss c fault × (c.board.clients ≤ idle_count members)
RefusesClose c members (Lost fault) = ⊥
