use Rattle.working_votes.proofs.Example.{are_true, free, has_vote, is_free_then, is_over, rates, serves, works, works_still}
use Rattle.working_votes.proofs.laws.a_session_works_by_votes.Goals as goal

pub returns-clause-free : goal.returns-clause-free
returns-clause-free c = free

pub returns-clause-premises : goal.returns-clause-premises
returns-clause-premises c = are_true

pub returns-clause-rates : goal.returns-clause-rates
returns-clause-rates c = rates

pub returns-clause-works : goal.returns-clause-works
returns-clause-works c = works

pub returns-clause-works_on : goal.returns-clause-works_on
returns-clause-works_on c = works_still

pub returns-clause-has_vote : goal.returns-clause-has_vote
returns-clause-has_vote c = has_vote

pub returns-clause-is_over : goal.returns-clause-is_over
returns-clause-is_over c = is_over

pub returns-clause-serves : goal.returns-clause-serves
returns-clause-serves c = serves

pub returns-clause-is_free : goal.returns-clause-is_free
returns-clause-is_free c = is_free_then
