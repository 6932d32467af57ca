use Rattle.incidents.proofs.Keeping.{HasLine-fit, IsNumbered-fit, first_fit, worlds_fit}
use Rattle.world.proofs.SavedWorlds.{SavedLaws}
use Rattle.incidents.proofs.laws.worlds_stay_fit.Goals.{After-tickets_name_quorums}
use Rattle.incidents.proofs.laws.worlds_stay_fit.Goals as goal

laws : After-tickets_name_quorums → SavedLaws
laws c = record {
  client = c.parts_keep_their_rules.ensures.clients;
  voter = c.parts_keep_their_rules.ensures.voters;
  meet = c.coteries_meet.ensures;
  bridges = c.bridges_meet.ensures;
  name = c.tickets_name_quorums.ensures;
}

pub returns-clause-first : goal.returns-clause-first
returns-clause-first c = first_fit (laws (goal.at.returns-clause-first c).After-tickets_name_quorums)

pub returns-clause-fit : goal.returns-clause-fit
returns-clause-fit c = worlds_fit (laws (goal.at.returns-clause-fit c).After-tickets_name_quorums)

pub returns-clause-numbered : goal.returns-clause-numbered
returns-clause-numbered c = IsNumbered-fit

pub returns-clause-lines : goal.returns-clause-lines
returns-clause-lines c = HasLine-fit
