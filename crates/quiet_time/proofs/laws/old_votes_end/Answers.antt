use Rattle.quiet_time.proofs.EndLemmas.{old_end}
use Rattle.quiet_time.proofs.laws.old_votes_end.Goals as goal

pub returns : goal.returns
returns c = old_end
