use Rattle.ways.specs.Leads.{LeadsOn}
use Rattle.ways.proofs.rounds.try_rounds.Given as goal

abbrev pub invariant-loop : goal.invariant-loop
invariant-loop l = LeadsOn l.fn.world l.world l.steps.items
