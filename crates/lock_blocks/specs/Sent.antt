-- All that voters and clients send by the calls of this library.
use Rattle.std.specs.Prelude.{ℕ, ◌≡◌, ◌≤◌, List, Some, Ok, length}
use Rattle.numbers.specs.Sets.{IsSet}
use Rattle.message.specs.Lines.{HasLine}
use Rattle.message.specs.declared.message.Message.TheVariants as kinds
use Rattle.message.specs.declared.message.ToClient.{ToClient}
use Rattle.message.specs.declared.message.ToVoter.{ToVoter}
use Rattle.requester.specs.declared.state.ClientState.{ClientState}
use Rattle.requester.specs.Leases.{disclaim, renew}
use Rattle.requester.specs.Steps as client
use Rattle.voter.specs.declared.state.VoterState.{VoterState}
use Rattle.voter.specs.Leases.{evict}
use Rattle.voter.specs.Steps as voter
use Rattle.lock_blocks.specs.Bytes.{IsClient, IsVoter}
use Rattle.lock_blocks.specs.Lines.{lines_to_clients, lines_to_voters}

-- P holds of all that a voter sends in one call: of the replies of a step and of an eviction that
-- leave a voter whose numbers fit in 64 bits, and of reminders
pub record OfEachVoter (P : List ToClient → Type 0) : Type 0 where
  pub steps : (before after : List ℕ) (v : VoterState) (m : ToVoter) (o : voter.Outcome) → IsVoter before v
      → voter.step v m ≡ Some o → IsVoter after o.state → P o.replies
  pub evictions : (before after : List ℕ) (v : VoterState) (grant : ℕ) (o : voter.Outcome) → IsVoter before v
      → evict v grant ≡ Some o → IsVoter after o.state → P o.replies
  pub reminders : (bytes : List ℕ) (v : VoterState) → IsVoter bytes v → P (voter.remind v)

-- a client asks a set of voters, and takes messages that have a line
abbrev pub Comes : client.Cause → Type 0
Comes (client.Asks quorum) = IsSet quorum
Comes (client.Takes m) = HasLine (kinds.ToClient m)
Comes client.Leaves = Unit {0}
Comes client.GivesUp = Unit {0}

-- P holds of all that a client sends in one call: of what a step sends, of reminders, of what it
-- sends when it disclaims its requests, and of signs of life
pub record OfEachClient (P : List ToVoter → Type 0) : Type 0 where
  pub steps : (bytes : List ℕ) (x : ClientState) (cause : client.Cause) (o : client.Outcome) → IsClient bytes x
      → Comes cause → client.step x cause ≡ Ok o → P o.out
  pub reminders : (bytes : List ℕ) (x : ClientState) → IsClient bytes x → P (client.remind x)
  pub disclaims : (bytes : List ℕ) (x : ClientState) (voters : List ℕ) (sent : List ToVoter) → IsClient bytes x
      → IsSet voters → disclaim x voters ≡ Ok sent → P sent
  pub renewals : (bytes : List ℕ) (x : ClientState) → IsClient bytes x → P (renew x)

-- the lines to clients fit in the room QLOCK_VOTER_OUT of include/qlock.h
abbrev pub FitVoterRoom : List ToClient → Type 0
FitVoterRoom messages = length (lines_to_clients messages) ≤ 240

-- the lines to voters fit in the room QLOCK_CLIENT_OUT of include/qlock.h
abbrev pub FitClientRoom : List ToVoter → Type 0
FitClientRoom messages = length (lines_to_voters messages) ≤ 4864
