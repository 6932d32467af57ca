use Rattle.std.proofs.Common.{◌≡◌}
use Rattle.quorum_set.specs.Capacities.{unit_capacities}
use Rattle.coterie_file.proofs.capacities.units.Given as goal

abbrev pub invariant-loop : goal.invariant-loop
invariant-loop l = l.units.items ≡ unit_capacities l.counter
