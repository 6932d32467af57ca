use Rattle.std.proofs.lemmas.Result.{IfOk-weaker}
use Rattle.certificate.specs.Bounds.{BearsBound, IsBounded}
use Rattle.certificate.specs.Certificates.{AreWeights}
use Rattle.certificate.proofs.BoundLemmas.{BearsBound-weights, IsBounded-weights}
use Rattle.near.proofs.search.near.Goals as goal

pub returns-clause-bounded : goal.returns-clause-bounded
returns-clause-bounded c = IfOk-weaker c.found.result AreWeights IsBounded IsBounded-weights c.found.ensures.weights

pub returns-clause-voter : goal.returns-clause-voter
returns-clause-voter c = IfOk-weaker c.found.result AreWeights BearsBound BearsBound-weights c.found.ensures.weights
