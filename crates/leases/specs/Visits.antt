-- Clients that show their passes to a guard, in a world whose clients and voters crash and restart.
use Rattle.std.specs.Prelude.{ℕ, List, [], ◌∷◌}
use Rattle.fence.specs.Passes.{Admits, SeesAlso}
use Rattle.world.specs.Restarts.{Happening, Saved, all_happen, pass_of}
use Rattle.world_state.specs.Steps.{Dealing}

-- a client that shows its pass, and what happened since the visit before
pub record Visit : Type 0 where
  pub since : List Happening
  pub client : ℕ

-- the passes that are shown in these visits, in order
abbrev pub passes : Dealing → List Visit → Saved → List (List ℕ)
passes deal [] s = []
passes deal (v ∷ vs) s = pass_of (all_happen deal v.since s) v.client ∷ passes deal vs (all_happen deal v.since s)

-- a guard that has seen these grants admits each of these passes, one after the other
abbrev pub AdmitsAll : List ℕ → List (List ℕ) → Type 0
AdmitsAll seen [] = Unit {0}
AdmitsAll seen (pass ∷ rest) = Admits seen pass × ((after : List ℕ) → SeesAlso seen pass after → AdmitsAll after rest)
