-- The contract of a client: all that proofs about many voters and clients need to know of its
-- steps.
use Rattle.std.specs.Prelude.{ℕ, ◌≡◌, ◌≢◌, ◌<◌, ◌≤◌, true, false, List, length, ◌⊎◌}
use Rattle.std.specs.List.{AllByRecursion}
use Rattle.numbers.specs.Bounds.{max_voters}
use Rattle.numbers.specs.Sets.{IsSet}
use Rattle.message.specs.declared.message.ToVoter.{ToVoter}
use Rattle.message.specs.declared.message.VoterBody.{VoterBody}
use Rattle.message.specs.declared.message.VoterBody.TheVariants as asks
use Rattle.message.specs.declared.message.ClientBody.{ClientBody}
use Rattle.message.specs.declared.message.ClientBody.TheVariants as to_client
use Rattle.requester.specs.declared.state.Phase.{Phase}
use Rattle.requester.specs.declared.state.Seen.{Seen}
use Rattle.requester.specs.declared.state.Seen.TheVariants.{Nothing, Entered, Left}
use Rattle.requester.specs.declared.state.ClientState.{ClientState}
use Rattle.requester.specs.Words.{is_idle, is_inside, members, is_member, holds, holds_under, last_of}
use Rattle.requester.specs.Steps.{Outcome, Cause, Asks, Takes, Leaves, GivesUp}

-- a client asks a quorum that is a set and not empty, and takes messages that name it and a voter
-- below 64
abbrev pub Accepts : ClientState → Cause → Type 0
Accepts x (Asks quorum) = IsSet quorum × (1 ≤ length quorum)
Accepts x (Takes m) = (m.client ≡ x.id) × (m.voter < max_voters)
Accepts x Leaves = Unit {0}
Accepts x GivesUp = Unit {0}

-- What arrived

-- the message is a LOCKED of this voter, with this stamp and this grant
abbrev pub Locks : ℕ → ClientBody → ℕ → ℕ → ℕ → Type 0
Locks sender (to_client.Locked s g) voter stamp grant = (voter ≡ sender) × (stamp ≡ s) × (grant ≡ g)
Locks sender (to_client.Fail s) voter stamp grant = ⊥
Locks sender (to_client.Inquire g) voter stamp grant = ⊥

-- the cause of the step is this LOCKED
abbrev pub IsLocked : Cause → ℕ → ℕ → ℕ → Type 0
IsLocked (Asks quorum) voter stamp grant = ⊥
IsLocked (Takes m) voter stamp grant = Locks m.voter m.body voter stamp grant
IsLocked Leaves voter stamp grant = ⊥
IsLocked GivesUp voter stamp grant = ⊥

-- the cause of the step is some LOCKED of this voter with this stamp
abbrev pub IsLockedOf : Cause → ℕ → ℕ → Type 0
IsLockedOf cause voter stamp = (grant : ℕ) × IsLocked cause voter stamp grant

-- How a client changes

-- neither the stamp nor a last grant ever falls, and a client that is done with its stamp stays
-- done with it
pub record IsLater (x y : ClientState) : Type 0 where
  pub stamp : x.stamp ≤ y.stamp
  pub last : (v : ℕ) → last_of x v ≤ last_of y v
  pub idle : x.stamp ≡ y.stamp → is_idle x.phase ≡ true → is_idle y.phase ≡ true

-- a LOCKED of this voter with this stamp and grant may still count
pub record IsLive (x : ClientState) (voter stamp grant : ℕ) : Type 0 where
  pub busy : is_idle x.phase ≡ false
  pub current : stamp ≡ x.stamp
  pub fresh : last_of x voter < grant

-- what is seen of a step, by the phases before and after it
abbrev pub Sees : Phase → Seen → Phase → Type 0
Sees before Nothing after = is_inside before ≡ is_inside after
Sees before Entered after = (is_inside before ≡ false) × (is_inside after ≡ true)
Sees before Left after = (is_inside before ≡ true) × (is_inside after ≡ false)

-- a request keeps the quorum that it was made for, until it ends; a message neither begins nor ends
-- one, and doesn't take the lock from its client
abbrev pub KeepsQuorum : ClientState → Cause → ClientState → Type 0
KeepsQuorum x (Asks quorum) y = members y ≡ quorum
KeepsQuorum x (Takes m) y =
    (members y ≡ members x) × (is_idle y.phase ≡ is_idle x.phase)
    × (is_inside x.phase ≡ true → is_inside y.phase ≡ true)
KeepsQuorum x Leaves y = (members y ≡ members x) × (is_idle y.phase ≡ true)
KeepsQuorum x GivesUp y = (members y ≡ members x) × (is_idle y.phase ≡ true)

-- What a step from x to y sends:
-- - REQUEST with the new stamp;
-- - RELINQUISH with the grant that was held, no longer is, and is now the last one given back;
-- - RELEASE with the stamp of a request that is over;
-- - RELEASE with the stamp of a LOCKED that arrived, if no request with that stamp runs.
abbrev pub Says : ClientState → Cause → ClientState → ℕ → VoterBody → Type 0
Says x cause y voter (asks.Request stamp) = stamp ≡ y.stamp
Says x cause y voter (asks.Relinquish grant) =
    (grant ≡ last_of y voter) × (holds_under x voter grant ≡ true) × (holds y voter ≡ false)
Says x cause y voter (asks.Release stamp) =
    ((stamp ≡ y.stamp) × (is_idle y.phase ≡ true))
    ⊎ (IsLockedOf cause voter stamp × ((is_idle y.phase ≡ true) ⊎ (stamp ≢ y.stamp)))

-- each of these messages is from this client, and is one that the step sends
abbrev pub AllSay : ClientState → Cause → ClientState → List ToVoter → Type 0
AllSay x cause y out = AllByRecursion (λ m. (m.client ≡ x.id) × Says x cause y m.voter m.body) out

-- what the world needs to know of a step of a client
pub record MeetsContract (x : ClientState) (cause : Cause) (o : Outcome) : Type 0 where
  pub id : o.state.id ≡ x.id
  pub limit : o.state.limit ≡ x.limit
  pub later : IsLater x o.state
  -- a held vote was held before under the same stamp, or the cause of the step is its LOCKED, which
  -- counts
  pub held : (v g : ℕ) → holds_under o.state v g ≡ true
      → ((holds_under x v g ≡ true) × (o.state.stamp ≡ x.stamp))
      ⊎ (IsLocked cause v o.state.stamp g × IsLive o.state v o.state.stamp g)
  -- the last grant given back is the same as before, or the one that was held
  pub last : (v : ℕ) → (last_of o.state v ≡ last_of x v) ⊎ (holds_under x v (last_of o.state v) ≡ true)
  pub out : AllSay x cause o.state o.out
  pub seen : Sees x.phase o.seen o.state.phase
  pub quorum : KeepsQuorum x cause o.state

-- What a reminder sends: REQUEST with the stamp of the request that runs, and RELINQUISH with the
-- last grant given back.
abbrev pub Repeats : ClientState → ℕ → VoterBody → Type 0
Repeats x voter (asks.Request stamp) = stamp ≡ x.stamp
Repeats x voter (asks.Relinquish grant) = grant ≡ last_of x voter
Repeats x voter (asks.Release stamp) = ⊥

-- each of these messages is from this client, and is one that a reminder sends
abbrev pub AllRepeat : ClientState → List ToVoter → Type 0
AllRepeat x out = AllByRecursion (λ m. (m.client ≡ x.id) × Repeats x m.voter m.body) out

-- Ranges

-- a stamp: from 1 to the limit
abbrev pub IsStamp : ℕ → ℕ → Type 0
IsStamp limit stamp = (1 ≤ stamp) × (stamp ≤ limit)

-- the stamp of a LOCKED that arrives is in range
abbrev pub ComesInRange : ℕ → Cause → Type 0
ComesInRange limit cause = (voter stamp grant : ℕ) → IsLocked cause voter stamp grant → IsStamp limit stamp

-- the stamp that a client sends is in range, and a grant is at least 1
abbrev pub SaysInRange : ℕ → VoterBody → Type 0
SaysInRange limit (asks.Request stamp) = IsStamp limit stamp
SaysInRange limit (asks.Relinquish grant) = 1 ≤ grant
SaysInRange limit (asks.Release stamp) = IsStamp limit stamp

-- a client sends to a member of its quorum, or to the voter whose LOCKED arrived
abbrev pub IsReached : Cause → ClientState → ℕ → Type 0
IsReached cause y voter = (is_member y voter ≡ true) ⊎ ((stamp : ℕ) × IsLockedOf cause voter stamp)

-- each of these messages goes to such a voter, which is below 64, and is in range
abbrev pub AllInRange : Cause → ClientState → List ToVoter → Type 0
AllInRange cause y out =
    AllByRecursion (λ m. IsReached cause y m.voter × (m.voter < max_voters) × SaysInRange y.limit m.body) out

-- each of these reminders goes to a member, which is below 64, and is in range
abbrev pub RemindersInRange : ClientState → List ToVoter → Type 0
RemindersInRange x out =
    AllByRecursion (λ m. (is_member x m.voter ≡ true) × (m.voter < max_voters) × SaysInRange x.limit m.body) out
