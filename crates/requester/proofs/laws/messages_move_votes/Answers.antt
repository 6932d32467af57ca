use Rattle.requester.proofs.Hindered.{marks-take}
use Rattle.requester.proofs.Messages.{KeepsRequest-take, SendsBack-take, VoteFate-take}
use Rattle.requester.proofs.VoteLemmas.{HoldsBesides-take, IsKeptOrGiven-take}
use Rattle.requester.proofs.laws.messages_move_votes.Goals as goal

pub returns-clause-votes : goal.returns-clause-votes
returns-clause-votes c = VoteFate-take

pub returns-clause-request : goal.returns-clause-request
returns-clause-request c = KeepsRequest-take

pub returns-clause-sends : goal.returns-clause-sends
returns-clause-sends c = SendsBack-take

pub returns-clause-would_hold : goal.returns-clause-would_hold
returns-clause-would_hold c = λ x m s e. HoldsBesides-take x m e

pub returns-clause-others : goal.returns-clause-others
returns-clause-others c = IsKeptOrGiven-take

pub returns-clause-votes_given_back_are_marked : goal.returns-clause-votes_given_back_are_marked
returns-clause-votes_given_back_are_marked c = marks-take
