use Rattle.world.proofs.Plans.{IsCoherent-reached}
use Rattle.world.proofs.laws.worlds_stay_coherent.Goals as goal

pub returns : goal.returns
returns c = IsCoherent-reached c.runs_are_coherent.ensures c.coteries_meet.ensures c.bridges_meet.ensures c.tickets_name_quorums.ensures
