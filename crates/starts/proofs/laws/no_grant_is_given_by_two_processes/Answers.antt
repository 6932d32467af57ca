use Rattle.starts.proofs.LawLemmas.{given_once}
use Rattle.starts.proofs.laws.no_grant_is_given_by_two_processes.Goals as goal

pub returns : goal.returns
returns c = given_once
