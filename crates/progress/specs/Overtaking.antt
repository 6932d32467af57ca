-- Who overtakes whom: requests that every voter of their quorum knows.
use Rattle.std.specs.Prelude.{ℕ, ◌≡◌, true, false}
use Rattle.voter.specs.VoterContract.{IsEntry}
use Rattle.requester.specs.Words.{is_idle, is_member}
use Rattle.world_state.specs.Steps.{WorldState, client_at, voter_at}

-- The client's request runs, and every voter of its quorum knows it: there it has the vote or waits.
pub record IsKnownEverywhere (w : WorldState) (c : ℕ) : Type 0 where
  pub runs : is_idle (client_at w.clients c).phase ≡ false
  pub known : (v : ℕ) → is_member (client_at w.clients c) v ≡ true
      → IsEntry (voter_at w.voters v) c (client_at w.clients c).stamp

-- The request that the client made in the first world, or before, still runs in the second: the client
-- is not idle, and its stamp is the same.
pub record StillRuns (w u : WorldState) (c : ℕ) : Type 0 where
  pub runs : is_idle (client_at u.clients c).phase ≡ false
  pub same : (client_at u.clients c).stamp ≡ (client_at w.clients c).stamp
