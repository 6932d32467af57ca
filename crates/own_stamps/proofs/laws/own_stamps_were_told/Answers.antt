use Rattle.own_stamps.proofs.StampLemmas.{were_told}
use Rattle.own_stamps.proofs.laws.own_stamps_were_told.Goals as goal

pub returns : goal.returns
returns c = were_told
