use Rattle.std.proofs.Common.{sym, subst}
use Rattle.incidents.specs.Calls.{IsCalm, befalls_by}
use Rattle.incidents.specs.Fit.{IsFit}
use Rattle.world.specs.Incidents.{Happens, Incident}
use Rattle.world.specs.Restarts.{OneClient, Restarts}
use Rattle.world.specs.SavedWorlds.{PlannedSaved}
use Rattle.world.specs.States.{saved_of}
use Rattle.world_state.specs.States.{plans_of}
use Rattle.incidents.proofs.CallLemmas.{kept_by}
use Rattle.incidents.proofs.incident_world.IncidentWorld.restart_client.Goals.{After-crash_client}
use Rattle.incidents.proofs.incident_world.IncidentWorld.restart_client.Goals as goal

-- the world before the crash
abbrev before : After-crash_client → PlannedSaved
before c = record { plans = plans_of c.self.inside.cycles; saved = saved_of c.self.inside.stored }

-- what befalls it
abbrev crash : After-crash_client → Incident
crash c = Happens (Restarts (OneClient c.args.client))

-- what the world keeps
keeps : (P : PlannedSaved → Type 0) → (c : After-crash_client) → P (before c) → P (befalls_by (before c) (crash c))
    → P (record { plans = plans_of c.self.inside.cycles; saved = saved_of c.crash_client.new.stored })
keeps P c was will = kept_by P (before c) (crash c) c.crash_client.result (saved_of c.crash_client.new.stored) was will
    c.crash_client.ensures.restarted c.crash_client.ensures.unchanged

pub invariant_of-self : goal.invariant_of-self
invariant_of-self c =
    let at = (goal.at.invariant_of-self c).After-crash_client in
    keeps (λ w. IsFit w) at c.self.invariant (c.worlds_stay_fit.ensures.fit _ (crash at) c.self.invariant tt)

pub returns-clause-calm : goal.returns-clause-calm
returns-clause-calm c calm =
    let was = subst (λ (w : PlannedSaved). IsCalm w) (sym c.self.view_is) calm in
    keeps (λ w. IsCalm w) (goal.at.returns-clause-calm c).After-crash_client was (c.worlds_stay_calm.ensures.calm _ (Restarts (OneClient c.args.client)) was tt)
