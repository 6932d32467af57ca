use Rattle.planner.proofs.Ones.{IsCertificate-uniform, IsUniform-certificate}
use Rattle.planner.proofs.laws.ones_certify_uniform_coteries.Goals as goal

pub returns : goal.returns
returns c = λ s capacities h are equal. (IsUniform-certificate s capacities h are equal, IsCertificate-uniform s capacities h are equal)
