use Rattle.certificate.proofs.UnitCapacities.{AreCapacities-unit_capacities, IsCertificate-IsUnitCertificate, IsOptimal-IsUnitOptimal, IsUnitCertificate-IsCertificate}
use Rattle.certificate.proofs.UnitCapacities.{IsUnitOptimal-IsOptimal, are_unit-iff, are_unit-unit_capacities, greatest_ratio-are_unit, length-unit_capacities, load_of-are_unit}
use Rattle.certificate.proofs.laws.unit_capacities_change_nothing.Goals as goal

pub returns-clause-ratio : goal.returns-clause-ratio
returns-clause-ratio c = greatest_ratio-are_unit

pub returns-clause-certificate : goal.returns-clause-certificate
returns-clause-certificate c = λ w e.
    let long = length-unit_capacities w.capacities w.system.voters e in
    let unit = are_unit-unit_capacities w.capacities w.system.voters e in
    (IsUnitCertificate-IsCertificate w long unit, IsCertificate-IsUnitCertificate w long unit)

pub returns-clause-optimal : goal.returns-clause-optimal
returns-clause-optimal c = λ w coterie e.
    let long = length-unit_capacities w.capacities w.system.voters e in
    let unit = are_unit-unit_capacities w.capacities w.system.voters e in
    (IsUnitOptimal-IsOptimal w long unit, IsOptimal-IsUnitOptimal w long unit coterie)

pub returns-clause-load : goal.returns-clause-load
returns-clause-load c = λ w e.
    load_of-are_unit w (length-unit_capacities w.capacities w.system.voters e) (are_unit-unit_capacities w.capacities w.system.voters e)

pub returns-clause-units : goal.returns-clause-units
returns-clause-units c = are_unit-iff

pub returns-clause-capacities : goal.returns-clause-capacities
returns-clause-capacities c = AreCapacities-unit_capacities
