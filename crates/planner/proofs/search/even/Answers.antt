use Rattle.std.proofs.Common.{rules, ◌≡◌, ◌∙◌, sym, IsOkUnless, Option, None, Some, Result, Ok, Err}
use Rattle.certificate.specs.Certificates.{AnswersUnless, Weighted, weights_fault}
use Rattle.certificate.specs.declared.fault.PlanFault.{PlanFault}
use Rattle.certificate.specs.declared.fault.PlanFault.TheVariants.{OutOfMemory}
use Rattle.certificate.proofs.FaultLaws.{weights_fault-IsCertificate}
use Rattle.planner.specs.Uniform.{all_ones}
use Rattle.planner.proofs.Ones.{IsCertificate-uniform}
use Rattle.planner.proofs.search.even.Goals as goal

pub returns-clause-certified : goal.returns-clause-certified
returns-clause-certified c certificate =
    let w = all_ones c.args.coterie.now c.args.capacities.now in
    let none : weights_fault w ≡ None = weights_fault-IsCertificate w certificate in
    let exact : AnswersUnless (weights_fault w) w c.check.result = search rules in
    accepted (weights_fault w) w c.check.result exact none
  where
    accepted : (fault : Option PlanFault) (w : Weighted) (result : Result Weighted PlanFault) → AnswersUnless fault w result → fault ≡ None → IsOkUnless result OutOfMemory
    accepted fault w (Ok p) is none = search rules
    accepted fault w (Err OutOfMemory) is none = search rules
    accepted fault w (Err e) is none = absurd (apart (sym is ∙ none))
      where
        apart : Some e ≡ None → ⊥
        apart is = cc

pub returns-clause-uniform : goal.returns-clause-uniform
returns-clause-uniform c uniform equal =
    returns-clause-certified c (IsCertificate-uniform c.args.coterie.now c.args.capacities.now c.count.ensures.coterie c.requires.capacities equal uniform)
