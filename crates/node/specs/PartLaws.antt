-- What is proved of every voter and of every client, as nodes and votes rely on it.
use Rattle.std.specs.Prelude.{◌≡◌, ℕ, ◌≤◌, Some, true, false}
use Rattle.numbers.specs.Bounds.{max_limit}
use Rattle.message.specs.declared.message.ToClient.{ToClient}
use Rattle.message.specs.declared.message.ToVoter.{ToVoter}
use Rattle.voter.specs.declared.state.VoterState.{VoterState}
use Rattle.voter.specs.Replies.{AllCarry, CarrySeen}
use Rattle.voter.specs.Steps.{IsSound, Outcome, effect_of, remind, start, step}
use Rattle.voter.specs.VoteMoves.{VoteMoves}
use Rattle.voter.specs.VoterContract.{MeetsContract}
use Rattle.requester.specs.declared.state.ClientState.{ClientState}
use Rattle.requester.specs.Held.{HoldsBesides, IsKeptOrGiven}
use Rattle.requester.specs.Soundness as client
use Rattle.requester.specs.Steps.{take, would_hold}

-- A step of a sound voter numbers its grant and meets the contract. It keeps the voter's number and
-- limit, and leaves it sound.
pub record StepsSoundly (v : VoterState) (m : ToVoter) (o : Outcome) : Type 0 where
  pub moves : VoteMoves (effect_of v m).frees v o.state
  pub meets : MeetsContract v m o
  pub carry : CarrySeen v m o
  pub sound : IsSound o.state

-- a new voter is sound, each step of a sound voter is as above, and each reminder names its voter
pub record AreVoterLaws : Type 0 where
  pub first : (id limit : ℕ) → limit ≤ max_limit → IsSound (start id limit)
  pub steps : (v : VoterState) (m : ToVoter) (o : Outcome) → IsSound v → step v m ≡ Some o → StepsSoundly v m o
  pub reminders : (v : VoterState) → AllCarry v.id v.seen (remind v)

-- a client holds only votes of members of its quorum, and a message moves its votes as `would_hold` says
pub record AreClientLaws : Type 0 where
  pub of_members : (x : ClientState) → client.IsSound x → client.HoldsOfMembers x
  pub fresh : (x : ClientState) (m : ToClient) → client.IsSound x → would_hold x m ≡ true
      → HoldsBesides x m.voter m.body (take x m).state
  pub others : (x : ClientState) (m : ToClient) → client.IsSound x → would_hold x m ≡ false → (v : ℕ)
      → IsKeptOrGiven x (take x m) v
