use Rattle.world.proofs.Plans.{HasLine-reached, IsSound-reached, WorldLaws}
use Rattle.world.proofs.laws.worlds_stay_sound.Goals as goal

pub returns : goal.returns
returns c = λ w r.
    let laws : WorldLaws = record {
      sound = c.runs_are_sound.ensures;
      meet = c.coteries_meet.ensures;
      bridges = c.bridges_meet.ensures;
      name = c.tickets_name_quorums.ensures;
    } in
    let sound = IsSound-reached laws w r in record {
      reached = r;
      exclusive = sound.exclusive;
      lines = HasLine-reached laws w r;
      tickets = sound.draws;
      tickets2 = sound.draws2;
      numbered = sound.numbered;
    }
