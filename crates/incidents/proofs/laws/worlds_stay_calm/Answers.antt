use Rattle.world.specs.SavedWorlds.{live_of}
use Rattle.world.proofs.EveryRun.{every_run}
use Rattle.world.proofs.Plans.{IsSound-reached, WorldLaws}
use Rattle.world.proofs.SavedWorlds.{IsReached-live, IsSavedWorld-first, IsSavedWorld-happens, SavedLaws}
use Rattle.incidents.proofs.laws.worlds_stay_calm.Goals.{After-tickets_name_quorums}
use Rattle.incidents.proofs.laws.worlds_stay_calm.Goals as goal

laws : After-tickets_name_quorums → SavedLaws
laws c = record {
  client = c.parts_keep_their_rules.ensures.clients;
  voter = c.parts_keep_their_rules.ensures.voters;
  meet = c.coteries_meet.ensures;
  bridges = c.bridges_meet.ensures;
  name = c.tickets_name_quorums.ensures;
}

pub returns-clause-first : goal.returns-clause-first
returns-clause-first c = IsSavedWorld-first

pub returns-clause-calm : goal.returns-clause-calm
returns-clause-calm c = IsSavedWorld-happens (laws (goal.at.returns-clause-calm c).After-tickets_name_quorums)

pub returns-clause-reached : goal.returns-clause-reached
returns-clause-reached c = IsReached-live

pub returns-clause-exclusive : goal.returns-clause-exclusive
returns-clause-exclusive c = λ w is.
    let all = laws (goal.at.returns-clause-exclusive c).After-tickets_name_quorums in
    let world : WorldLaws = record { sound = every_run all.client all.voter; meet = all.meet; bridges = all.bridges; name = all.name } in
    (IsSound-reached world (live_of w) (IsReached-live w is)).exclusive
