use Rattle.coterie_file.proofs.CapacityLemmas.{IsCapacity-from_test, is_capacity-from_IsCapacity, AreCapacities-from_no_fault, capacities_fault-none}
use Rattle.coterie_file.proofs.laws.capacities_have_no_fault.Goals as goal

pub returns : goal.returns
returns c = record {
  test = λ capacity. (IsCapacity-from_test capacity, is_capacity-from_IsCapacity capacity);
  capacities = λ n capacities. (AreCapacities-from_no_fault n capacities, capacities_fault-none n capacities);
}
