use Rattle.construct.proofs.TreeLemmas.{length-quorums_under}
use Rattle.construct.proofs.laws.trees_double_their_exponent.Goals as goal

pub returns : goal.returns
returns c = λ h. length-quorums_under h 0
