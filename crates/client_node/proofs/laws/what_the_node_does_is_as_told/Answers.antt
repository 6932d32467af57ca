use Rattle.client_node.proofs.All.{node_goes}
use Rattle.client_node.proofs.laws.what_the_node_does_is_as_told.Goals as goal

pub returns-clause-told : goal.returns-clause-told
returns-clause-told c = λ ttl lease span periods voters sessions ids limits used quorums me steps may met.
    (node_goes ttl lease span periods voters sessions ids limits used quorums me steps may met).told

pub returns-clause-calls : goal.returns-clause-calls
returns-clause-calls c = λ ttl lease span periods voters sessions ids limits used quorums me steps may met.
    (node_goes ttl lease span periods voters sessions ids limits used quorums me steps may met).stands.calls

pub returns-clause-inside : goal.returns-clause-inside
returns-clause-inside c = λ ttl lease span periods voters sessions ids limits used quorums me steps may met.
    (node_goes ttl lease span periods voters sessions ids limits used quorums me steps may met).stands.had
