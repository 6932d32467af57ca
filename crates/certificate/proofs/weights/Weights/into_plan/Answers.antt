use Rattle.certificate.proofs.Optimal.{IsOptimal-certificate}
use Rattle.certificate.proofs.weights.Weights.into_plan.Goals as goal

pub returns-then-is_balanced-clause-optimal : goal.returns-then-is_balanced-clause-optimal
returns-then-is_balanced-clause-optimal c = IsOptimal-certificate c.args.self (c.is_balanced.ensures.0 c.if-is_balanced.true)
