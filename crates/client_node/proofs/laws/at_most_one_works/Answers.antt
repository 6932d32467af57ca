use Rattle.callers.proofs.Working.{one_call_works}
use Rattle.client_node.specs.Worlds.{all_steps, begun_locks}
use Rattle.client_node.proofs.All.{node_goes}
use Rattle.std.specs.Prelude.{◌+◌}
use Rattle.client_node.proofs.laws.at_most_one_works.Goals as goal

pub returns : goal.returns
returns c = λ lapses a b ttl lease stop periods voters sessions ids limits used quorums steps me request other another some rated bound meet told may may_other met met_other works works_other.
    one_call_works lapses a b ttl lease stop periods voters sessions used (all_steps lease (begun_locks ids limits used) steps) quorums me request other another some rated bound meet told
    (node_goes ttl lease (lease + stop) periods voters sessions ids limits used quorums me steps may met).told
    (node_goes ttl lease (lease + stop) periods voters sessions ids limits used quorums other steps may_other met_other).told
    works works_other
