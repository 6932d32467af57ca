use Rattle.quorum_set.proofs.BridgeLemmas.{first_apart-None, first_apart-bridged}
use Rattle.quorum_set.proofs.laws.bridges_have_no_fault.Goals as goal

pub returns : goal.returns
returns c = λ firsts seconds. (first_apart-None 0 firsts seconds, first_apart-bridged 0 firsts seconds)
