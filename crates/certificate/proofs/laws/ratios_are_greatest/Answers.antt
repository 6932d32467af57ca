use Rattle.certificate.proofs.RatioLemmas.{greatest_ratio-bound, greatest_ratio-lowest, greatest_ratio-reached}
use Rattle.certificate.proofs.laws.ratios_are_greatest.Goals as goal

pub returns-clause-bound : goal.returns-clause-bound
returns-clause-bound c = greatest_ratio-bound

pub returns-clause-reached : goal.returns-clause-reached
returns-clause-reached c = greatest_ratio-reached

pub returns-clause-lowest : goal.returns-clause-lowest
returns-clause-lowest c = greatest_ratio-lowest
