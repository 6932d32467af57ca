use Rattle.cluster.proofs.PatienceLemmas.{some_looks}
use Rattle.cluster.proofs.patience.looks_for_sleep.Goals as goal

pub returns-clause-some : goal.returns-clause-some
returns-clause-some c = some_looks c.args.reminders c.min.result c.min.ensures
