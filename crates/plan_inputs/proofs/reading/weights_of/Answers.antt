use Rattle.std.proofs.Common.{ap, ap₂, sym, ◌∙◌}
use Rattle.plan_texts.specs.PlanTexts.{weights_at}
use Rattle.plan_inputs.specs.Faults.{refused_as}
use Rattle.plan_inputs.specs.Inputs.{weights_in}
use Rattle.plan_inputs.specs.declared.fault.InputFault.TheVariants.{Plan}
use Rattle.plan_inputs.proofs.InputLemmas.{Refuses-plan}
use Rattle.plan_inputs.proofs.reading.weights_of.Goals as goal

pub returns-in-Ok-clause-exact : goal.returns-in-Ok-clause-exact
unfolding weights_in
returns-in-Ok-clause-exact c =
    ap (refused_as Plan) (sym (ap₂ (λ s caps. weights_at s caps c.args.text.now) c.coterie.ensures.value c.capacities.ensures.value) ∙ c.in-Ok.ensures.exact)

pub returns-in-Err-clause-exact : goal.returns-in-Err-clause-exact
unfolding weights_in
returns-in-Err-clause-exact c =
    rw c.from.ensures (Refuses-plan c.in-Err.fault (weights_at c.args.named.now.system c.args.named.now.capacities c.args.text.now)
    (rw (c.coterie.ensures.value, c.capacities.ensures.value) at c.in-Err.ensures.exact))
