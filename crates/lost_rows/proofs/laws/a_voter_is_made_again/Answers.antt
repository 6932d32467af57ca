use Rattle.lost_rows.proofs.Example.{made_in_between}
use Rattle.lost_rows.proofs.laws.a_voter_is_made_again.Goals as goal

pub returns : goal.returns
returns c = made_in_between
