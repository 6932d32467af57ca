use Rattle.std.proofs.Common.{arith}
use Rattle.lease_clock.proofs.laws.a_client_works_and_is_let_go.Goals as goal

pub returns-clause-rates : goal.returns-clause-rates
returns-clause-rates c = search arith depth 40
