use Rattle.world.specs.SavedWorlds.{live_of}
use Rattle.world.proofs.SavedWorlds.{IsReached-live, IsSavedWorld-first, IsSavedWorld-happens, SavedLaws, restarts-client}
use Rattle.world.proofs.laws.saved_worlds_stay_sound.Goals.{After-tickets_name_quorums}
use Rattle.world.proofs.laws.saved_worlds_stay_sound.Goals as goal

laws : After-tickets_name_quorums → SavedLaws
laws c = record {
  client = c.parts_keep_their_rules.ensures.clients;
  voter = c.parts_keep_their_rules.ensures.voters;
  meet = c.coteries_meet.ensures;
  bridges = c.bridges_meet.ensures;
  name = c.tickets_name_quorums.ensures;
}

pub returns-clause-first : goal.returns-clause-first
returns-clause-first c = IsSavedWorld-first

pub returns-clause-happens : goal.returns-clause-happens
returns-clause-happens c = IsSavedWorld-happens (laws (goal.at.returns-clause-happens c).After-tickets_name_quorums)

pub returns-clause-live : goal.returns-clause-live
returns-clause-live c = λ w is. c.worlds_stay_sound.ensures (live_of w) (IsReached-live w is)

pub returns-clause-restarts : goal.returns-clause-restarts
returns-clause-restarts c = restarts-client (laws (goal.at.returns-clause-restarts c).After-tickets_name_quorums)
