-- What a step does to the vote, and to an INQUIRE that is outstanding.
use Rattle.std.specs.Prelude.{ℕ, ◌≡◌, ◌+◌, ◌<◌, ◌≤◌, Bool, true, false, Some, None, ◌⊎◌}
use Rattle.message.specs.declared.message.VoterBody.{VoterBody}
use Rattle.message.specs.declared.message.VoterBody.TheVariants as asks
use Rattle.message.specs.Requests.{precedes}
use Rattle.voter.specs.declared.state.Grant.{Grant}
use Rattle.voter.specs.declared.state.VoterState.{VoterState}
use Rattle.voter.specs.Entries.{request_of}
use Rattle.voter.specs.Steps.{current_stamp}

-- the vote stays held, or free, as it was
pub record GrantStays (v w : VoterState) : Type 0 where
  pub granted : w.granted ≡ v.granted
  pub held : w.held ≡ v.held

-- the current grant ended, and the vote is free
pub record GrantEnds (v w : VoterState) : Type 0 where
  pub granted : w.granted ≡ v.granted
  pub held : w.held ≡ None

-- one more grant was given; it has the next number and holds the vote
pub record GrantIsNew (v w : VoterState) : Type 0 where
  pub granted : w.granted ≡ v.granted + 1
  pub grant : Grant
  pub held : w.held ≡ Some grant
  pub number : grant.grant ≡ v.granted + 1

-- A step that ends the current grant leaves no grant or a new one. Any other step leaves the vote
-- as it was, or grants the free vote.
abbrev pub VoteMoves : Bool → VoterState → VoterState → Type 0
VoteMoves true v w = GrantEnds v w ⊎ GrantIsNew v w
VoteMoves false v w = GrantStays v w ⊎ ((v.held ≡ None) × GrantIsNew v w)

-- What a message of a client does to a grant that has the vote afterwards

-- the message is a REQUEST, newer than the current one of its client, and the granted request
-- doesn't precede it
pub record Challenges (v : VoterState) (client : ℕ) (body : VoterBody) (g : Grant) : Type 0 where
  pub stamp : ℕ
  pub request : body ≡ asks.Request stamp
  pub new : (s : ℕ) → current_stamp v client ≡ Some s → s < stamp
  pub first : precedes (request_of g) (record { stamp = stamp; client = client }) ≡ false

-- The grant had the vote before. An INQUIRE that was outstanding still is, and a new one is sent
-- only if the message challenges the grant.
pub record KeptGrant (v : VoterState) (client : ℕ) (body : VoterBody) (w : VoterState) (g : Grant) : Type 0 where
  pub held : v.held ≡ Some g
  pub asked : v.inquiring ≡ true → w.inquiring ≡ true
  pub new : w.inquiring ≡ true → (v.inquiring ≡ true) ⊎ Challenges v client body g

-- the grant has a new number, and an INQUIRE is sent only if the message challenges it
pub record NewGrant (v : VoterState) (client : ℕ) (body : VoterBody) (w : VoterState) (g : Grant) : Type 0 where
  pub number : v.granted < g.grant
  pub new : w.inquiring ≡ true → Challenges v client body g

-- each grant is one of these two
pub record KeepsGrants (v : VoterState) (client : ℕ) (body : VoterBody) (w : VoterState) : Type 0 where
  pub granted : v.granted ≤ w.granted
  pub grants : (g : Grant) → w.held ≡ Some g → KeptGrant v client body w g ⊎ NewGrant v client body w g
