use Rattle.std.proofs.lemmas.Result.{IfOk-weaker}
use Rattle.certificate.specs.Certificates.{IsCertificate, IsOptimal}
use Rattle.certificate.proofs.Optimal.{IsOptimal-certificate}
use Rattle.plan_texts.proofs.PlanLaws.{plan_at-sound, plan_at-complete}
use Rattle.plan_texts.proofs.reading.read_plan.Goals as goal

pub returns-clause-written : goal.returns-clause-written
returns-clause-written c = plan_at-sound c.args.coterie.now c.args.capacities.now c.args.text.now c.plan_of_text.result c.plan_of_text.ensures.exact

pub returns-clause-read : goal.returns-clause-read
returns-clause-read c = λ w same capacities certificate e. plan_at-complete c.args.coterie.now c.args.capacities.now c.args.text.now c.plan_of_text.result w
    c.plan_of_text.ensures.exact same capacities certificate e

pub returns-clause-optimal : goal.returns-clause-optimal
returns-clause-optimal c = IfOk-weaker c.plan_of_text.result IsCertificate IsOptimal IsOptimal-certificate c.plan_of_text.ensures.certificate
