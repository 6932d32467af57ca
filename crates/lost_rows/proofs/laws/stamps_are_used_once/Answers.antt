use Rattle.lost_rows.proofs.Once.{used_once}
use Rattle.lost_rows.proofs.laws.stamps_are_used_once.Goals as goal

pub returns : goal.returns
returns c = used_once
