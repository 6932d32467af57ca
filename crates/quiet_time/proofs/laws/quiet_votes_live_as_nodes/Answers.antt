use Rattle.quiet_time.proofs.LifeLemmas.{lives}
use Rattle.quiet_time.proofs.laws.quiet_votes_live_as_nodes.Goals as goal

pub returns : goal.returns
returns c = lives
