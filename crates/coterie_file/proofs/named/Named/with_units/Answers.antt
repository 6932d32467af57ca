use Rattle.coterie_file.proofs.named.Named.with_units.Goals as goal
use Rattle.coterie_file.proofs.CapacityLemmas.{AreCapacities-unit}

pub with-requires-clause-capacities : goal.with-requires-clause-capacities
with-requires-clause-capacities c = rw (c.units-capacities.ensures, c.voters.ensures.value) (AreCapacities-unit c.args.coterie.voters)
