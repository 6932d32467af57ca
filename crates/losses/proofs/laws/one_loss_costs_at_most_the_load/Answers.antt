use Rattle.losses.proofs.OneLoss.{share_lost-le, share_lost-least, share_lost-reached, tickets_left-one, tickets_lost-le, tickets_lost-one, tickets_lost-reached}
use Rattle.losses.proofs.laws.one_loss_costs_at_most_the_load.Goals as goal

pub returns-clause-count : goal.returns-clause-count
returns-clause-count c = λ w h. tickets_lost-one w h.quorums

pub returns-clause-left : goal.returns-clause-left
returns-clause-left c = λ w h. tickets_left-one w h.quorums

pub returns-clause-most : goal.returns-clause-most
returns-clause-most c = λ w h. tickets_lost-le w h.quorums

pub returns-clause-reached : goal.returns-clause-reached
returns-clause-reached c = λ w h. tickets_lost-reached w h.quorums h.coterie.some_voter

pub returns-clause-load : goal.returns-clause-load
returns-clause-load c = λ w h unit. share_lost-le w h.quorums unit

pub returns-clause-worst : goal.returns-clause-worst
returns-clause-worst c = λ w h unit. share_lost-reached w h.quorums unit h.coterie.some_voter

pub returns-clause-least : goal.returns-clause-least
returns-clause-least c = share_lost-least
