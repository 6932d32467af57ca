use Rattle.whole_lock.proofs.Example.{asks, begins, free, has_vote, has_votes, meet, met, rates, same, told, turns, works}
use Rattle.whole_lock.proofs.Granted.{said}
use Rattle.whole_lock.proofs.laws.a_call_works_by_votes.Goals as goal

pub returns-clause-rates : goal.returns-clause-rates
returns-clause-rates c = rates

pub returns-clause-meet : goal.returns-clause-meet
returns-clause-meet c = meet

pub returns-clause-free : goal.returns-clause-free
returns-clause-free c = free

pub returns-clause-turns : goal.returns-clause-turns
returns-clause-turns c = turns

pub returns-clause-same : goal.returns-clause-same
returns-clause-same c = same

pub returns-clause-told : goal.returns-clause-told
returns-clause-told c = told

pub returns-clause-begins : goal.returns-clause-begins
returns-clause-begins c = begins

pub returns-clause-met : goal.returns-clause-met
returns-clause-met c = met

pub returns-clause-works : goal.returns-clause-works
returns-clause-works c = works

pub returns-clause-asks : goal.returns-clause-asks
returns-clause-asks c = asks

pub returns-clause-has_vote : goal.returns-clause-has_vote
returns-clause-has_vote c = has_vote

pub returns-clause-has_quorum : goal.returns-clause-has_quorum
returns-clause-has_quorum c = has_votes

pub returns-clause-says : goal.returns-clause-says
returns-clause-says c = said
