use Rattle.progress.proofs.run.Exchanges.{comes_back}
use Rattle.progress.proofs.invariants.Kept.{IsKept-reached}
use Rattle.world_state.specs.Steps.{dealing_of}
use Rattle.progress.proofs.laws.lost_votes_come_back.Goals as goal

pub returns : goal.returns
returns c w v g r = comes_back c.worlds_keep_their_rules.ensures (dealing_of w.plans) w.state v g (IsKept-reached c.worlds_keep_their_rules.ensures w r)
