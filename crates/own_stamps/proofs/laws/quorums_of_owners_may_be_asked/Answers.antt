use Rattle.own_stamps.proofs.OwnerLemmas.{may_ask_by_bits}
use Rattle.own_stamps.proofs.laws.quorums_of_owners_may_be_asked.Goals as goal

pub returns : goal.returns
returns c = may_ask_by_bits
