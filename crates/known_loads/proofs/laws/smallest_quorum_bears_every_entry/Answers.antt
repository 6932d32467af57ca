use Rattle.certificate.proofs.Duality.{Bears-list}
use Rattle.known_loads.proofs.Bounds.{unit_smallest, smallest_voter, capacity_smallest}
use Rattle.known_loads.proofs.laws.smallest_quorum_bears_every_entry.Goals as goal

pub returns-clause-busiest : goal.returns-clause-busiest
returns-clause-busiest c = λ s list is small. unit_smallest s is _ _ (Bears-list s list is small)

pub returns-clause-voter : goal.returns-clause-voter
returns-clause-voter c = λ s list is small. smallest_voter s is _ _ (Bears-list s list is small)

pub returns-clause-ratio : goal.returns-clause-ratio
returns-clause-ratio c = λ s capacities list is are small. capacity_smallest s is capacities are _ _ (Bears-list s list is small)
