use Rattle.generations.proofs.Turns.{learned_by_quorum}
use Rattle.generations.proofs.laws.quorums_that_learn_settle.Goals as goal

pub returns : goal.returns
returns c = learned_by_quorum
