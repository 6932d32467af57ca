-- Votes whose request is over: how they come back to their voter.
use Rattle.std.specs.Prelude.{ℕ, ◌≡◌, ◌≢◌, ◌<◌, ◌≤◌, true, false, Some, List, [], ◌∷◌, length}
use Rattle.voter.specs.declared.state.Grant.{Grant}
use Rattle.voter.specs.VoteMoves.{GrantIsNew}
use Rattle.voter.specs.VoterContract.{IsEntry}
use Rattle.requester.specs.Words.{is_asking, is_current, is_member, last_of}
use Rattle.world_state.specs.declared.step.Step.{Step}
use Rattle.world_state.specs.declared.step.Step.TheVariants.{Deliver, RemindClient, RemindVoter}
use Rattle.world.specs.Runs.{run_of}
use Rattle.world_state.specs.Steps.{Dealing, WorldState, client_at, voter_at}

-- The voter has a grant out whose request is over: its client made another one since then, or is idle.
-- The voter may give one more grant.
pub record HasLostVote (w : WorldState) (v : ℕ) (g : Grant) : Type 0 where
  pub voter : v < length w.voters
  pub held : (voter_at w.voters v).held ≡ Some g
  pub over : is_current (client_at w.clients g.client) g.stamp ≡ false
  pub left : (voter_at w.voters v).granted < (voter_at w.voters v).limit

-- a reminder of the voter, and the arrival of two messages
abbrev pub reminder_and_two : ℕ → ℕ → ℕ → List Step
reminder_and_two v first second = RemindVoter v ∷ Deliver first ∷ Deliver second ∷ []

-- The vote comes back by a reminder of its voter and two messages that are sent after it: the voter
-- then knows no request of the grant's client, and those of the other clients as before.
pub record ComesBack (deal : Dealing) (w : WorldState) (v : ℕ) (g : Grant) : Type 0 where
  pub first : ℕ
  pub second : ℕ
  pub first_is_new : length w.sent ≤ first
  pub second_is_new : length w.sent ≤ second
  pub gone : (s : ℕ) → IsEntry (voter_at (run_of deal (reminder_and_two v first second) w).voters v) g.client s → ⊥
  pub others : (c s : ℕ) → c ≢ g.client → IsEntry (voter_at w.voters v) c s
      → IsEntry (voter_at (run_of deal (reminder_and_two v first second) w).voters v) c s

-- The voter has granted its vote to the request that the client makes now, under this number, and the
-- client gave that grant back. The voter has one more grant to give.
pub record HasReturnedVote (w : WorldState) (v : ℕ) (g : Grant) : Type 0 where
  pub held : (voter_at w.voters v).held ≡ Some g
  pub asks : is_asking (client_at w.clients g.client).phase ≡ true
  pub asked : is_member (client_at w.clients g.client) v ≡ true
  pub current : g.stamp ≡ (client_at w.clients g.client).stamp
  pub returned : g.grant ≤ last_of (client_at w.clients g.client) v
  pub left : (voter_at w.voters v).granted < (voter_at w.voters v).limit

-- a reminder of the client, and the arrival of one message
abbrev pub reminder_and_one : ℕ → ℕ → List Step
reminder_and_one c message = RemindClient c ∷ Deliver message ∷ []

-- The vote goes on by a reminder of its client and one message that is sent after it: another grant has
-- it, under the next number, and the voter knows all requests as before.
pub record GoesOn (deal : Dealing) (w : WorldState) (v : ℕ) (g : Grant) : Type 0 where
  pub message : ℕ
  pub is_new : length w.sent ≤ message
  pub granted : GrantIsNew (voter_at w.voters v) (voter_at (run_of deal (reminder_and_one g.client message) w).voters v)
  pub known : (c s : ℕ) → IsEntry (voter_at w.voters v) c s
      → IsEntry (voter_at (run_of deal (reminder_and_one g.client message) w).voters v) c s
