-- Worlds that steps lead to after incidents, once all clients were idle but those that are dead.
use Rattle.std.specs.Prelude.{ℕ, ◌≡◌, ◌⊎◌, ◌++◌, true, false, List, []}
use Rattle.requester.specs.Words.{is_idle}
use Rattle.world.specs.Restarts.{begin}
use Rattle.world.specs.Runs.{AreLimits}
use Rattle.world_state.specs.Steps.{Dealing, WorldState, client_at}
use Rattle.world.specs.Visible.{DealsFrom, DoMeet}
use Rattle.progress.specs.LiveRounds.{IsDead, LetsGoOfDead, Live, everybody}
use Rattle.progress.specs.Moves.{Move, moved}
use Rattle.leases.specs.Comeback.{AreLawful, unseen}
use Rattle.world.specs.Incidents.{Incident, all_befall}

-- Incidents befell a new world, and no message was made up but evictions and those that end a request
-- which is over. Then each client was idle, or it is not live, and dead from then on. From there these moves led to
-- this world, by which grants are let go only of clients that are not live, and dead from then on. Who is dead stays
-- so in the moves that follow. What was seen before is left out.
pub record IsReachedLive (live : Live) (deal : Dealing) (w : WorldState) (more : List Move) : Type 0 where
  pub voters : ℕ
  pub clients : ℕ
  pub limit : ℕ
  pub limits : AreLimits voters clients limit
  pub quorums : List (List ℕ)
  pub meet : DoMeet voters quorums
  pub deals : DealsFrom quorums deal
  pub incidents : List Incident
  pub lawful : AreLawful deal (begin voters clients limit) incidents
  pub moves : List Move
  pub idle : (c : ℕ) → (is_idle (client_at (all_befall deal incidents (begin voters clients limit)).live.clients c).phase ≡ true)
      ⊎ ((live.client c ≡ false) × IsDead deal (unseen (all_befall deal incidents (begin voters clients limit))).live (moves ++ more) c)
  pub evictions : LetsGoOfDead live deal (unseen (all_befall deal incidents (begin voters clients limit))).live moves more
  pub state : w ≡ moved deal moves (unseen (all_befall deal incidents (begin voters clients limit))).live

-- the same if everybody is live: all clients were idle, and no grant was let go since
abbrev pub IsReachedAgain : Dealing → WorldState → Type 0
IsReachedAgain deal w = IsReachedLive everybody deal w []
