use Rattle.callers.proofs.CallLemmas.{said_once}
use Rattle.callers.proofs.laws.lost_is_said_once.Goals as goal

pub returns : goal.returns
returns c = said_once
