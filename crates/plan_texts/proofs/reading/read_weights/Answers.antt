use Rattle.plan_texts.proofs.PlanLaws.{weights_at-sound, weights_at-complete, weights_at-complete_plan}
use Rattle.plan_texts.proofs.reading.read_weights.Goals as goal

pub returns-clause-written : goal.returns-clause-written
returns-clause-written c =
    weights_at-sound c.args.coterie.now c.args.capacities.now c.args.text.now c.weights_of_text.result c.weights_of_text.ensures.weights c.weights_of_text.ensures.exact

pub returns-clause-read : goal.returns-clause-read
returns-clause-read c = λ w same capacities are e. weights_at-complete c.args.coterie.now c.args.capacities.now c.args.text.now c.weights_of_text.result w
    c.weights_of_text.ensures.exact same capacities are e

pub returns-clause-plan : goal.returns-clause-plan
returns-clause-plan c = λ w same capacities certificate e. weights_at-complete_plan c.args.coterie.now c.args.capacities.now c.args.text.now c.weights_of_text.result w
    c.weights_of_text.ensures.exact same capacities certificate e
