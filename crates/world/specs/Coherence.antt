-- What fits together after every run: messages, votes and requests. Proofs about worlds rest on it.
use Rattle.std.specs.Prelude.{ℕ, ◌≡◌, ◌<◌, ◌≤◌, true, false, Option, Some, length}
use Rattle.std.specs.List.{AllByRecursion}
use Rattle.message.specs.declared.message.Message.{Message}
use Rattle.message.specs.declared.message.Message.TheVariants as kinds
use Rattle.message.specs.declared.message.VoterBody.{VoterBody}
use Rattle.message.specs.declared.message.VoterBody.TheVariants as asks
use Rattle.message.specs.declared.message.ClientBody.{ClientBody}
use Rattle.message.specs.declared.message.ClientBody.TheVariants as to_client
use Rattle.voter.specs.declared.state.Grant.{Grant}
use Rattle.voter.specs.declared.state.VoterState.{VoterState}
use Rattle.voter.specs.Steps as voter
use Rattle.voter.specs.VoterContract.{IsEntry}
use Rattle.requester.specs.declared.state.ClientState.{ClientState}
use Rattle.requester.specs.RequesterContract.{IsLive}
use Rattle.requester.specs.Soundness as client
use Rattle.requester.specs.Words.{is_idle, is_member, holds_under}
use Rattle.world_state.specs.Numbered.{IsNumbered}
use Rattle.world_state.specs.Steps.{WorldState, client_at, voter_at}

-- the vote is granted to this client's request of this stamp, under this number
abbrev pub Names : Option Grant → ℕ → ℕ → ℕ → Type 0
Names held client stamp grant = held ≡ Some (record { client = client; stamp = stamp; grant = grant })

-- What holds of a message to a voter, by the client that sent it and by the voter. A REQUEST carries a
-- stamp that the client reached. A RELINQUISH carries the number of a grant that the voter gave. If
-- this is the client's and has the vote, it counts no more. A RELEASE carries the stamp of a request
-- that is over.
abbrev pub AskOk : ClientState → VoterState → ℕ → ℕ → VoterBody → Type 0
AskOk x y voter client (asks.Request stamp) = stamp ≤ x.stamp
AskOk x y voter client (asks.Relinquish grant) =
    (grant ≤ y.granted) × ((stamp : ℕ) → IsLive x voter stamp grant → Names y.held client stamp grant → ⊥)
AskOk x y voter client (asks.Release stamp) = (stamp ≤ x.stamp) × (is_idle x.phase ≡ false → stamp < x.stamp)

-- What holds of a message to a client, by the client and the voter's vote. A LOCKED carries a stamp
-- that the client reached, and while it may still count, its grant has the vote.
abbrev pub ReportOk : ClientState → Option Grant → ℕ → ℕ → ClientBody → Type 0
ReportOk x held voter client (to_client.Locked stamp grant) =
    (stamp ≤ x.stamp) × (IsLive x voter stamp grant → Names held client stamp grant)
ReportOk x held voter client (to_client.Fail stamp) = Unit {0}
ReportOk x held voter client (to_client.Inquire grant) = Unit {0}

-- what holds of a message, by the clients and the voters
abbrev pub MessageOk : (ℕ → ClientState) → (ℕ → VoterState) → Message → Type 0
MessageOk X Y (kinds.ToVoter m) = AskOk (X m.client) (Y m.voter) m.voter m.client m.body
MessageOk X Y (kinds.ToClient m) = ReportOk (X m.client) (Y m.voter).held m.voter m.client m.body

-- each vote that a client holds is granted to its request, under the number that the client knows
abbrev pub HeldOk : (ℕ → ClientState) → (ℕ → VoterState) → Type 0
HeldOk X Y = (c v g : ℕ) → holds_under (X c) v g ≡ true → Names (Y v).held c (X c).stamp g

-- a client of the world made this request: its stamp is at least 1, and the client reached it
pub record WasMade (w : WorldState) (c s : ℕ) : Type 0 where
  pub client : c < length w.clients
  pub some : 1 ≤ s
  pub reached : s ≤ (client_at w.clients c).stamp

-- two requests that run have a voter in both quorums
pub record HaveCommonVoter (x y : ClientState) : Type 0 where
  pub voter : ℕ
  pub first : is_member x voter ≡ true
  pub second : is_member y voter ≡ true

-- What fits together in a world.
pub record IsCoherent (w : WorldState) : Type 0 where
  pub numbered : IsNumbered w
  pub clients : (c : ℕ) → client.IsSound (client_at w.clients c)
  pub voters : (v : ℕ) → voter.IsSound (voter_at w.voters v)
  pub messages : AllByRecursion (MessageOk (client_at w.clients) (voter_at w.voters)) w.sent
  pub held : HeldOk (client_at w.clients) (voter_at w.voters)
  -- each request that has a vote or waits was made
  pub made : (v c s : ℕ) → IsEntry (voter_at w.voters v) c s → WasMade w c s
  -- each member of a quorum is one of the world's voters
  pub members : (c v : ℕ) → is_member (client_at w.clients c) v ≡ true → v < length w.voters
  pub common : (c d : ℕ) → is_idle (client_at w.clients c).phase ≡ false → is_idle (client_at w.clients d).phase ≡ false
      → HaveCommonVoter (client_at w.clients c) (client_at w.clients d)
