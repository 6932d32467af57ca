use Rattle.std.proofs.Common.{sym, subst}
use Rattle.incidents.specs.Calls.{IsCalm, befalls_by}
use Rattle.incidents.specs.Fit.{IsFit}
use Rattle.world.specs.Incidents.{Happens}
use Rattle.world_state.specs.declared.step.Step.{Step}
use Rattle.world.specs.Restarts.{Goes}
use Rattle.world.specs.SavedWorlds.{PlannedSaved}
use Rattle.world.specs.States.{saved_of}
use Rattle.world_state.specs.States.{contents_of, plans_of}
use Rattle.incidents.proofs.CallLemmas.{kept_by_step}
use Rattle.incidents.proofs.incident_world.IncidentWorld.step.Goals.{After-step}
use Rattle.incidents.proofs.incident_world.IncidentWorld.step.Goals as goal

-- what the world keeps
keeps : (P : PlannedSaved → Type 0) → ((w : PlannedSaved) (st : Step) → P w → P (befalls_by w (Happens (Goes st)))) → (c : After-step) → P (record { plans = plans_of c.self.inside.cycles; saved = saved_of c.self.inside.stored }) → P (record { plans = plans_of c.self.inside.cycles; saved = saved_of c.step.new.self })
keeps P all c was = kept_by_step P all (record { plans = plans_of c.self.inside.cycles; saved = saved_of c.self.inside.stored }) was (contents_of c.make_room.new.self) c.make_room.ensures.same c.args.step c.step.result (saved_of c.step.new.self) c.step.ensures

pub invariant_of-self : goal.invariant_of-self
invariant_of-self c = keeps (λ w. IsFit w) (λ w st fit. c.worlds_stay_fit.ensures.fit w (Happens (Goes st)) fit tt) (goal.at.invariant_of-self c).After-step c.self.invariant

pub returns-clause-calm : goal.returns-clause-calm
returns-clause-calm c calm =
    keeps (λ w. IsCalm w) (λ w st is. c.worlds_stay_calm.ensures.calm w (Goes st) is tt) (goal.at.returns-clause-calm c).After-step (subst (λ (w : PlannedSaved). IsCalm w) (sym c.self.view_is) calm)
