use Rattle.quiet_time.proofs.EndLemmas.{those_inside_stay}
use Rattle.quiet_time.proofs.laws.votes_of_those_inside_stay.Goals as goal

pub returns : goal.returns
returns c = those_inside_stay
