-- The end of a cluster: which of its members are back, and the record of what they did.
use Rattle.std.specs.Prelude.{◌≡◌, ℕ, ◌-◌, ◌^◌, ◌<◌, List, IsPermutation, length, map, min}
use Rattle.std.specs.List.{All, count_by, flat_map, sum_by}
use Rattle.requester.specs.Words.{is_idle}
use Rattle.board.specs.declared.fault.BoardFault.{BoardFault}
use Rattle.board.specs.declared.fault.BoardFault.TheVariants.{VoteOut, OutOfMemory}
use Rattle.dealer.specs.declared.receipt.Receipt.{Receipt}
use Rattle.quorum_set.specs.declared.bridge.Side.{Side}
use Rattle.quorum_set.specs.declared.bridge.Side.TheVariants.{First, Second}
use Rattle.run_outcome.specs.declared.record.RunRecord.{RunRecord}
pub use Rattle.run_outcome.specs.Entries.{AreInOrder, Draw, Pass}
use Rattle.clerks.specs.Clerks.{IsDealt, receipts_of}
use Rattle.members.specs.Clusters.{ClusterState, names_in}
use Rattle.members.specs.Members.{MemberState}

-- how many of these members are idle
abbrev pub idle_count : List MemberState → ℕ
idle_count members = count_by (λ m. is_idle m.requester.phase) members

-- what a member drew of one plan, in the order of its requests
abbrev pub draws_of : Side → MemberState → List Draw
draws_of side m = map (λ r. (m.requester.id, r.ticket, r.quorum)) (receipts_of m.clerks side)

-- what these members drew of one plan, one member after the other
abbrev pub all_draws : Side → List MemberState → List Draw
all_draws side members = flat_map (draws_of side) members

-- these members' receipts of one plan, one member after the other
abbrev pub all_receipts : Side → List MemberState → List Receipt
all_receipts side members = flat_map (λ m. receipts_of m.clerks side) members

-- the passes of a member, in order
abbrev pub passes_of : MemberState → List Pass
passes_of m = map (λ x. (m.requester.id, x)) m.seat.passes

-- the passes of these members, one member after the other
abbrev pub all_passes : List MemberState → List Pass
all_passes members = flat_map passes_of members

-- the draw is of a client of the cluster, and names the quorum at its ticket's place of the cycle of
-- this side's plan; without such a plan there is none
pub record IsDraw (c : ClusterState) (side : Side) (d : Draw) : Type 0 where
  pub client : d.0 < c.board.clients
  pub quorum : IsDealt (names_in c) side d.1 d.2

-- these are the draws of one plan of these members, with their clients, in the order of their tickets;
-- the tickets are 0, 1, 2 and so on
pub record AreDrawsOf (c : ClusterState) (side : Side) (members : List MemberState) (draws : List Draw) : Type 0 where
  pub same : IsPermutation (all_draws side members) draws
  pub tickets : AreInOrder (map (λ d. d.1) draws)
  pub each : All (IsDraw c side) draws

-- The record of a run of these members:
-- - It has each member's draws with its client, and no others, for each plan by itself. They are in
--   the order of their tickets, which are 0, 1, 2 and so on.
-- - It has each member's passes with its client, and no others, in the order of their numbers.
--   These are 0, 1, 2 and so on.
-- - The register is the number of passes.
-- - How many messages were lost is the members' sum, at most 2^64 - 1.
pub record IsRecordOf (c : ClusterState) (members : List MemberState) (r : RunRecord) : Type 0 where
  pub first : AreDrawsOf c First members r.draws.items
  pub second : AreDrawsOf c Second members r.draws2.items
  pub passes : IsPermutation (all_passes members) r.passes.items
  pub numbers : AreInOrder (map (λ p. p.1) r.passes.items)
  pub each_pass : All (λ p. p.0 < c.board.clients) r.passes.items
  pub register : r.register ≡ length r.passes.items
  pub lost : r.lost ≡ min (sum_by (λ m. m.lost) members) (2 ^ 64 - 1)

-- what may go wrong at the end: the vote of a voter is out, or memory ran out
abbrev pub IsLoss : ClusterState → BoardFault → Type 0
IsLoss c (VoteOut v) = v < c.board.voters
IsLoss c OutOfMemory = Unit {0}
IsLoss c fault = ⊥
