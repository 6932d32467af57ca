use Rattle.certificate.proofs.EvenCycles.{count_of-even, busiest_of-even, ratio_of-even}
use Rattle.certificate.proofs.laws.whole_cycles_are_even.Goals as goal

pub returns-clause-counts : goal.returns-clause-counts
returns-clause-counts c = count_of-even

pub returns-clause-busiest : goal.returns-clause-busiest
returns-clause-busiest c = busiest_of-even

pub returns-clause-ratio : goal.returns-clause-ratio
returns-clause-ratio c = ratio_of-even
