use Rattle.own_stamps.proofs.StampLemmas.{are_own}
use Rattle.own_stamps.proofs.laws.told_stamps_are_own.Goals as goal

pub returns : goal.returns
returns c = are_own
