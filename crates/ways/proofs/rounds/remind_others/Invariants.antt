use Rattle.ways.specs.declared.make.Went.TheVariants.{On}
use Rattle.ways.specs.Leads.{LeadFurther}
use Rattle.ways.proofs.rounds.remind_others.Given as goal

abbrev pub invariant-loop-client : goal.invariant-loop-client
invariant-loop-client l = LeadFurther l.first l.fn.world l.fn.steps.items On l.world l.steps.items
