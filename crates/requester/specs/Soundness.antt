-- What holds of every client.
use Rattle.std.specs.Prelude.{ℕ, List, ◌≡◌, ◌<◌, ◌≤◌, true, false, eqb, length}
use Rattle.std.specs.List.{AllByRecursion, IsDistinct}
use Rattle.numbers.specs.Bounds.{max_clients, max_voters, max_limit}
use Rattle.numbers.specs.Sets.{IsSet}
use Rattle.requester.specs.declared.state.ClientState.{ClientState}
use Rattle.requester.specs.Words.{is_idle, is_inside, members, is_member, held_of, holds, is_covered, last_of, is_relinquished, is_inquired}

-- what holds of a held vote: a request runs, the voter is a member, and the grant is newer than the
-- last one given back
pub record IsHeldWell (x : ClientState) (voter : ℕ) : Type 0 where
  pub busy : is_idle x.phase ≡ false
  pub member : is_member x voter ≡ true
  pub fresh : last_of x voter < held_of x voter

-- each of the two maps has an entry for each of 64 voters
pub record HasPlaces (x : ClientState) : Type 0 where
  pub held : length x.held ≡ max_voters
  pub last : length x.last ≡ max_voters

-- what the steps need of the members of a quorum: few enough, below 64, and each once
pub record AreMembers (quorum : List ℕ) : Type 0 where
  pub few : length quorum ≤ max_voters
  pub voters : AllByRecursion (λ v. v < max_voters) quorum
  pub apart : IsDistinct eqb quorum

-- only votes of members of its quorum are held
abbrev pub HoldsOfMembers : ClientState → Type 0
HoldsOfMembers x = (v : ℕ) → is_member x v ≡ false → held_of x v ≡ 0

-- what holds of a client after any steps
pub record IsSound (x : ClientState) : Type 0 where
  pub id : x.id < max_clients
  pub some : 1 ≤ x.limit
  pub limit : x.limit ≤ max_limit
  pub places : HasPlaces x
  -- a request has a stamp from 1 to the limit, and the clock is not behind it
  pub stamp : x.stamp ≤ x.limit
  pub clock : x.stamp ≤ x.clock
  pub stamped : is_idle x.phase ≡ false → 1 ≤ x.stamp
  -- its quorum is a set of voters, and is not empty while a request runs
  pub quorum : IsSet (members x)
  pub asked : is_idle x.phase ≡ false → 1 ≤ length (members x)
  pub held : (v : ℕ) → holds x v ≡ true → IsHeldWell x v
  -- a client that is inside holds the vote of each member
  pub inside : is_inside x.phase ≡ true → is_covered x ≡ true
  -- a vote that its voter asked for is held, and a vote that was given back had a grant
  pub inquired : (v : ℕ) → is_inquired x v ≡ true → holds x v ≡ true
  pub relinquished : (v : ℕ) → is_relinquished x v ≡ true → 1 ≤ last_of x v
