use Rattle.std.specs.Prelude.{OnOk}
use Rattle.std.proofs.Common.{◌≡◌}
use Rattle.incidents.specs.Calls.{befalls_by}
use Rattle.incidents.specs.Fit.{IsFit}
use Rattle.world.specs.Incidents.{IsReborn}
use Rattle.world.specs.States.{saved_of}
use Rattle.world_state.specs.States.{plans_of}
use Rattle.incidents.proofs.CallLemmas.{befell, kept_by, reborn_on}
use Rattle.incidents.proofs.incident_world.IncidentWorld.bring_back.Goals.{After-be_reborn}
use Rattle.incidents.proofs.incident_world.IncidentWorld.bring_back.Goals as goal

-- the incident befell
did : (c : After-be_reborn) → OnOk c.be_reborn.result (saved_of c.be_reborn.new.stored ≡ (befalls_by (record { plans = plans_of c.self.inside.cycles; saved = saved_of c.self.inside.stored }) (IsReborn c.args.voter c.args.above)).saved)
did c = reborn_on c.be_reborn.result (saved_of c.self.inside.stored) c.args.voter c.args.above (saved_of c.be_reborn.new.stored) c.be_reborn.ensures.there c.be_reborn.ensures.above c.be_reborn.ensures.reborn

pub invariant_of-self : goal.invariant_of-self
invariant_of-self c =
    kept_by (λ w. IsFit w) (record { plans = plans_of c.self.inside.cycles; saved = saved_of c.self.inside.stored }) (IsReborn c.args.voter c.args.above) c.be_reborn.result (saved_of c.be_reborn.new.stored) c.self.invariant
    (c.worlds_stay_fit.ensures.fit _ (IsReborn c.args.voter c.args.above) c.self.invariant tt) (did (goal.at.invariant_of-self c).After-be_reborn) c.be_reborn.ensures.unchanged

pub returns-clause-reborn : goal.returns-clause-reborn
returns-clause-reborn c =
    let at = (goal.at.returns-clause-reborn c).After-be_reborn in
    befell (record { plans = plans_of c.self.inside.cycles; saved = saved_of c.self.inside.stored }) _ c.self.view_is (IsReborn c.args.voter c.args.above) c.be_reborn.result (saved_of c.be_reborn.new.stored) (did at)
