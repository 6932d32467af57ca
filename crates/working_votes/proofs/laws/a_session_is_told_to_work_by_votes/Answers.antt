use Rattle.working_votes.proofs.Told.{counts, premises, rates, same, says}
use Rattle.working_votes.proofs.laws.a_session_is_told_to_work_by_votes.Goals as goal

pub returns-clause-same : goal.returns-clause-same
returns-clause-same c = same

pub returns-clause-premises : goal.returns-clause-premises
returns-clause-premises c = premises

pub returns-clause-rates : goal.returns-clause-rates
returns-clause-rates c = rates

pub returns-clause-says : goal.returns-clause-says
returns-clause-says c = says

pub returns-clause-counts : goal.returns-clause-counts
returns-clause-counts c = counts
