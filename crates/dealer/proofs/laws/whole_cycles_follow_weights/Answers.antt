use Rattle.dealer.proofs.AccountLemmas.{times-whole, busiest_of-whole, ratio_of-whole}
use Rattle.dealer.proofs.laws.whole_cycles_follow_weights.Goals as goal

pub returns-clause-shares : goal.returns-clause-shares
returns-clause-shares c = times-whole

pub returns-clause-even : goal.returns-clause-even
returns-clause-even c = busiest_of-whole

pub returns-clause-ratio : goal.returns-clause-ratio
returns-clause-ratio c = ratio_of-whole
