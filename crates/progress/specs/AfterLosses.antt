-- Worlds after crashes and restarts in which saved states were lost.
use Rattle.std.specs.Prelude.{ℕ, ◌≡◌, ◌<◌, ◌≤◌, List}
use Rattle.voter.specs.VoterContract.{IsEntry}
use Rattle.world_state.specs.declared.step.Step.{Step}
use Rattle.world.specs.Restarts.{Happening, all_happen, begin}
use Rattle.world.specs.Runs.{AreLimits, run_of}
use Rattle.world_state.specs.Steps.{Dealing, WorldState, client_at, voter_at}
use Rattle.world.specs.Visible.{DealsFrom, DoMeet}

-- Anything happened to a new world: steps, saves, crashes, restarts, and losses of all but the
-- least of a saved state. Then these steps led to this world.
pub record IsReachedAfterLosses (deal : Dealing) (w : WorldState) : Type 0 where
  pub voters : ℕ
  pub clients : ℕ
  pub limit : ℕ
  pub limits : AreLimits voters clients limit
  pub quorums : List (List ℕ)
  pub meet : DoMeet voters quorums
  pub deals : DealsFrom quorums deal
  pub happenings : List Happening
  pub steps : List Step
  pub state : w ≡ run_of deal steps (all_happen deal happenings (begin voters clients limit)).live

-- The client asked after all that happened, by one of the steps: its stamp was lower before them.
abbrev pub AskedSince : (deal : Dealing) (w : WorldState) → IsReachedAfterLosses deal w → ℕ → Type 0
AskedSince deal w r c = (client_at (all_happen deal r.happenings (begin r.voters r.clients r.limit)).live.clients c).stamp < (client_at w.clients c).stamp

-- Each voter that knows the client's request has seen its stamp. So it tells it to whoever it
-- grants its vote to.
abbrev pub IsHeard : WorldState → ℕ → Type 0
IsHeard w c = (v : ℕ) → IsEntry (voter_at w.voters v) c (client_at w.clients c).stamp → (client_at w.clients c).stamp ≤ (voter_at w.voters v).seen
