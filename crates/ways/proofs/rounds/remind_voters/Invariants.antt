use Rattle.ways.specs.declared.make.Went.TheVariants.{On}
use Rattle.ways.specs.Leads.{LeadFurther}
use Rattle.ways.proofs.rounds.remind_voters.Given as goal

abbrev pub invariant-loop-voter : goal.invariant-loop-voter
invariant-loop-voter l = LeadFurther l.first l.fn.world l.fn.steps.items On l.world l.steps.items
