-- Members of a cluster, as contracts see them, and what their calls do.
use Rattle.std.specs.Prelude.{◌≡◌, ◌⊎◌, ℕ, ◌<◌, ◌++◌, ◌∷◌, [], true, false, List, Option, Some, None, Ok, All, length}
use Rattle.numbers.specs.Bounds.{max_stamp}
use Rattle.message.specs.declared.message.ToClient.{ToClient}
use Rattle.requester.specs.declared.state.Seen.{Seen}
use Rattle.requester.specs.declared.state.Seen.TheVariants.{Nothing}
use Rattle.requester.specs.declared.state.ClientState.{ClientState}
use Rattle.requester.specs.Soundness.{IsSound}
use Rattle.requester.specs.Steps.{Outcome, ask, ask_fault, give_up, leave, start, take, would_hold}
use Rattle.requester.specs.Words.{is_idle, is_inside, is_spent, members}
use Rattle.board.specs.declared.fault.BoardFault.TheVariants.{RegisterFull, OutOfMemory as NoPlace}
use Rattle.board.specs.Seats.{BoardState, ClientSeatState as SeatState}
use Rattle.board.specs.Quorums.{quorum_at, place_of, HasQuorum}
use Rattle.quorum_set.specs.declared.bridge.Side.{Side}
use Rattle.board.specs.Words.{nobody}
use Rattle.dealer.specs.declared.fault.DealFault.TheVariants.{QuotaSpent, OutOfMemory as NoRoom}
use Rattle.run_outcome.specs.declared.fault.ClusterFault.{ClusterFault}
use Rattle.run_outcome.specs.declared.fault.ClusterFault.TheVariants as refuses
use Rattle.clerks.specs.Clerks.{ClerksState, HasShare, IsThere, fresh_clerks, names_of, rest_of}
use Rattle.members.specs.Clusters.{ClusterState, names_in}
use Rattle.members.specs.Losses.{LosesAtMost, one_more}
use Rattle.mailroom.specs.Losses.{most_lost}
use Rattle.node.specs.Mail.{IsMail}
use Rattle.node.specs.Votes.{HoldsWithin}

-- a member: its client, its seat on the board, its clerks, how many messages it lost, and why its
-- work ended early when it was last driven
pub record MemberState : Type 0 where
  pub requester : ClientState
  pub seat : SeatState
  pub clerks : ClerksState
  pub lost : ℕ
  pub fault : Option ClusterFault

-- each of these members is idle
abbrev pub AreIdle : List MemberState → Type 0
AreIdle members = All (λ m. is_idle m.requester.phase ≡ true) members

-- The client is of this cluster, and the votes that it holds are those that its seat holds. Its clerks
-- are of the cluster's offices. While a request runs, its quorum is the one with this number in the
-- coterie of this side.
pub record IsMember (c : ClusterState) (x : ClientState) (seat : SeatState) (clerks : ClerksState)
    (side : Side) (quorum : ℕ) : Type 0 where
  pub sound : IsSound x
  pub client : x.id ≡ seat.client
  pub inside : seat.client < c.board.clients
  pub table : seat.table ≡ c.board.table
  pub offices : names_of clerks ≡ names_in c
  pub share : HasShare clerks c.quota
  pub in_use : IsThere clerks.side clerks.second
  pub held : seat.held ≡ x.held
  pub within : HoldsWithin c.board.voters seat.held
  pub asks : is_idle x.phase ≡ false
      → HasQuorum c.board.firsts c.board.quorums side quorum
      × (members x ≡ quorum_at c.board.quorums (place_of c.board.firsts side quorum))

-- the member with this number, just after the cluster was opened
abbrev pub fresh_member : ClusterState → ℕ → MemberState
fresh_member c client = record {
  requester = start client max_stamp;
  seat = record { table = c.board.table; client = client; held = nobody; reading = None; passes = [] };
  clerks = fresh_clerks (names_in c) c.quota;
  lost = 0;
  fault = None;
}

-- The client afterwards is what this step makes of it. Of the messages that it sends and of the
-- replies to them, at most `most_lost` are lost.
abbrev pub Makes : Outcome → MemberState → MemberState → Type 0
Makes o before after = (o.state ≡ after.requester) × LosesAtMost (most_lost (length o.out)) before.lost after.lost

-- its client asked this quorum
abbrev pub Asked : MemberState → List ℕ → MemberState → Type 0
Asked before quorum after = (o : Outcome) × (ask before.requester quorum ≡ Ok o) × Makes o before after

-- its client left
abbrev pub HasLeft : MemberState → MemberState → Type 0
HasLeft before after = (o : Outcome) × (leave before.requester ≡ Ok o) × Makes o before after

-- its client gave up its request
abbrev pub GaveUp : MemberState → MemberState → Type 0
GaveUp before after = (o : Outcome) × (give_up before.requester ≡ Ok o) × Makes o before after

-- A message came to the member. Either its client took it, or the message would have brought a vote
-- that could not be taken on the board. Then the client made no step, and one more message is lost.
abbrev pub Met : MemberState → ToClient → Seen → MemberState → Type 0
Met before m seen after =
    (((take before.requester m).seen ≡ seen) × Makes (take before.requester m) before after)
    ⊎ ((would_hold before.requester m ≡ true) × (seen ≡ Nothing)
    × (after ≡ record before { lost = one_more before.lost }))

-- a message from its mailbox came to the member
abbrev pub Pumped : BoardState → MemberState → Seen → MemberState → Type 0
Pumped board before seen after = (m : ToClient) × IsMail board before.requester.id m × Met before m seen after

-- why a member can't ask
abbrev pub RefusesAsk : MemberState → ClusterFault → Type 0
RefusesAsk m (refuses.Client e) = ask_fault m.requester ≡ Some e
RefusesAsk m (refuses.Deal QuotaSpent) =
    (is_idle m.requester.phase ≡ true) × (is_spent m.requester ≡ false) × (rest_of m.clerks m.clerks.side ≡ 0)
RefusesAsk m (refuses.Deal NoRoom) =
    (is_idle m.requester.phase ≡ true) × (is_spent m.requester ≡ false) × (0 < rest_of m.clerks m.clerks.side)
RefusesAsk m fault = ⊥

-- what a member needs to ask: it is idle, and a stamp and a ticket of the plan in use are left
abbrev pub MayAsk : MemberState → Type 0
MayAsk m =
    (is_idle m.requester.phase ≡ true) × (is_spent m.requester ≡ false) × (0 < rest_of m.clerks m.clerks.side)

-- the place, in the board's list, of the quorum with this number of the plan that a member uses
abbrev pub place_in : ClusterState → MemberState → ℕ → ℕ
place_in c m quorum = place_of c.board.firsts m.clerks.side quorum

-- the seat after it passed by this number; it no longer has a reading
abbrev pub with_pass : SeatState → ℕ → SeatState
with_pass seat x = record seat { reading = None; passes = seat.passes ++ x ∷ [] }

-- why a member can't pass
abbrev pub RefusesPass : MemberState → ClusterFault → Type 0
RefusesPass m refuses.NotInside = is_inside m.requester.phase ≡ false
RefusesPass m (refuses.Board RegisterFull) = is_inside m.requester.phase ≡ true
RefusesPass m (refuses.Board NoPlace) = is_inside m.requester.phase ≡ true
RefusesPass m fault = ⊥
