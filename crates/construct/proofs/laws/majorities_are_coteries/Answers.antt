use Rattle.construct.proofs.MajorityLemmas.{majority_is_coterie}
use Rattle.construct.proofs.laws.majorities_are_coteries.Goals as goal

pub returns : goal.returns
returns c = majority_is_coterie
