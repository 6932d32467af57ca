use Rattle.certificate.proofs.Duality.{Bears-list}
use Rattle.known_loads.proofs.Bounds.{unit_average, average_voter, capacity_average}
use Rattle.known_loads.proofs.laws.some_voter_bears_the_average.Goals as goal

pub returns-clause-busiest : goal.returns-clause-busiest
returns-clause-busiest c = λ s list is small. unit_average s is _ _ (Bears-list s list is small)

pub returns-clause-voter : goal.returns-clause-voter
returns-clause-voter c = λ s list is small. average_voter s is _ _ (Bears-list s list is small)

pub returns-clause-ratio : goal.returns-clause-ratio
returns-clause-ratio c = λ s capacities list is are small. capacity_average s is capacities are _ _ (Bears-list s list is small)
