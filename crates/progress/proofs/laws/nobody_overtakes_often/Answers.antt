use Rattle.progress.proofs.overtaking.Counting.{nobody_overtakes}
use Rattle.progress.proofs.invariants.Kept.{IsKept-reached}
use Rattle.world_state.specs.Steps.{dealing_of}
use Rattle.progress.proofs.laws.nobody_overtakes_often.Goals as goal

pub returns : goal.returns
returns c w client other steps more r = nobody_overtakes c.worlds_keep_their_rules.ensures (dealing_of w.plans) w.state client other steps more (IsKept-reached c.worlds_keep_their_rules.ensures w r)
