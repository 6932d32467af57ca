use Rattle.quiet_time.proofs.QuietLemmas.{go_to_those_inside}
use Rattle.quiet_time.proofs.laws.votes_go_to_those_inside.Goals as goal

pub returns : goal.returns
returns c = go_to_those_inside
