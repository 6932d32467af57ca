use Rattle.certificate.proofs.BoundLemmas.{BearsBound-weights, IsBounded-weights, IsCertificate-weights, bound_of-certificate, load-above}
use Rattle.certificate.proofs.laws.no_load_is_below_the_bound.Goals as goal

pub returns-clause-voter : goal.returns-clause-voter
returns-clause-voter c = BearsBound-weights

pub returns-clause-load : goal.returns-clause-load
returns-clause-load c = IsBounded-weights

pub returns-clause-own : goal.returns-clause-own
returns-clause-own c = load-above

pub returns-clause-certificate : goal.returns-clause-certificate
returns-clause-certificate c = λ w weights. (IsCertificate-weights w weights, bound_of-certificate w)
