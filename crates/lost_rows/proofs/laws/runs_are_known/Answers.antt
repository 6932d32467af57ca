use Rattle.lost_rows.proofs.Once.{known_runs}
use Rattle.lost_rows.proofs.laws.runs_are_known.Goals as goal

pub returns : goal.returns
returns c = known_runs
