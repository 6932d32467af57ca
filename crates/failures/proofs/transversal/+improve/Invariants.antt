use Rattle.failures.proofs.transversal.+improve.Given as goal

abbrev pub decreases-improve : goal.decreases-improve
decreases-improve l = l.steps.now
