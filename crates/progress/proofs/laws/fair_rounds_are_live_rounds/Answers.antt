use Rattle.progress.proofs.rounds.Fair.{fair_go}
use Rattle.progress.proofs.laws.fair_rounds_are_live_rounds.Goals as goal

pub returns : goal.returns
returns c live deal w rounds all up = fair_go live deal w rounds all up
