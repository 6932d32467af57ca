use Rattle.std.specs.Prelude.{OnOk}
use Rattle.std.proofs.Common.{◌≡◌}
use Rattle.incidents.specs.Calls.{befalls_by}
use Rattle.incidents.specs.Fit.{IsFit}
use Rattle.world.specs.Incidents.{StartsAnew}
use Rattle.world.specs.States.{saved_of}
use Rattle.world_state.specs.States.{plans_of}
use Rattle.incidents.proofs.CallLemmas.{befell, kept_by, anew_on}
use Rattle.incidents.proofs.incident_world.IncidentWorld.start_anew.Goals.{After-be_anew}
use Rattle.incidents.proofs.incident_world.IncidentWorld.start_anew.Goals as goal

-- the incident befell
did : (c : After-be_anew) → OnOk c.be_anew.result (saved_of c.be_anew.new.stored ≡ (befalls_by (record { plans = plans_of c.self.inside.cycles; saved = saved_of c.self.inside.stored }) (StartsAnew c.args.client c.args.clock)).saved)
did c = anew_on c.be_anew.result (saved_of c.self.inside.stored) c.args.client c.args.clock (saved_of c.be_anew.new.stored) c.be_anew.ensures.there c.be_anew.ensures.ahead c.be_anew.ensures.anew

pub invariant_of-self : goal.invariant_of-self
invariant_of-self c =
    kept_by (λ w. IsFit w) (record { plans = plans_of c.self.inside.cycles; saved = saved_of c.self.inside.stored }) (StartsAnew c.args.client c.args.clock) c.be_anew.result (saved_of c.be_anew.new.stored) c.self.invariant
    (c.worlds_stay_fit.ensures.fit _ (StartsAnew c.args.client c.args.clock) c.self.invariant tt) (did (goal.at.invariant_of-self c).After-be_anew) c.be_anew.ensures.unchanged

pub returns-clause-anew : goal.returns-clause-anew
returns-clause-anew c =
    let at = (goal.at.returns-clause-anew c).After-be_anew in
    befell (record { plans = plans_of c.self.inside.cycles; saved = saved_of c.self.inside.stored }) _ c.self.view_is (StartsAnew c.args.client c.args.clock) c.be_anew.result (saved_of c.be_anew.new.stored) (did at)
