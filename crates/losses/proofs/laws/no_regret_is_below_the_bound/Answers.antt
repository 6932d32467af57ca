use Rattle.losses.proofs.Greatest.{regret_of-bound}
use Rattle.losses.proofs.RegretLemmas.{IsRegretBound-regret_bound}
use Rattle.losses.proofs.laws.no_regret_is_below_the_bound.Goals as goal

pub returns-clause-bound : goal.returns-clause-bound
returns-clause-bound c = λ w limit multipliers failures h usable. IsRegretBound-regret_bound w limit multipliers failures h usable.is_fraction.parts usable.some usable.each

pub returns-clause-regret : goal.returns-clause-regret
returns-clause-regret c = regret_of-bound
