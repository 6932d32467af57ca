use Rattle.ways.specs.declared.make.Went.TheVariants.{On}
use Rattle.ways.specs.Leads.{LeadFurther}
use Rattle.ways.proofs.make.deliver_from.Given as goal

abbrev pub invariant-loop-number : goal.invariant-loop-number
invariant-loop-number l = LeadFurther l.first l.fn.world l.fn.steps.items On l.world l.steps.items
