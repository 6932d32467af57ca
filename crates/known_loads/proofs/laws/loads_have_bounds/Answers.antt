use Rattle.known_loads.proofs.Bounds.{cycle-average, cycle-smallest, load-average, load-smallest, capacity_load-average, capacity_load-smallest, load-square}
use Rattle.known_loads.proofs.laws.loads_have_bounds.Goals as goal

pub returns-clause-busiest_average : goal.returns-clause-busiest_average
returns-clause-busiest_average c = cycle-average

pub returns-clause-busiest_smallest : goal.returns-clause-busiest_smallest
returns-clause-busiest_smallest c = cycle-smallest

pub returns-clause-average : goal.returns-clause-average
returns-clause-average c = load-average

pub returns-clause-smallest : goal.returns-clause-smallest
returns-clause-smallest c = load-smallest

pub returns-clause-square : goal.returns-clause-square
returns-clause-square c = load-square

pub returns-clause-capacity_average : goal.returns-clause-capacity_average
returns-clause-capacity_average c = capacity_load-average

pub returns-clause-capacity_smallest : goal.returns-clause-capacity_smallest
returns-clause-capacity_smallest c = capacity_load-smallest
