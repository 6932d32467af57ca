use Rattle.requester.proofs.Hindered.{hinders-take, gives-take}
use Rattle.requester.proofs.laws.hindered_clients_give_votes_back.Goals as goal

pub returns-clause-hinders : goal.returns-clause-hinders
returns-clause-hinders c = hinders-take

pub returns-clause-gives : goal.returns-clause-gives
returns-clause-gives c = λ x m s asking held hindered below is. gives-take x m s asking held hindered is
