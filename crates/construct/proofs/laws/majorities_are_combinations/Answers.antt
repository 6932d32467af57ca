use Rattle.construct.proofs.MajorityLemmas.{length-sets_from}
use Rattle.construct.proofs.laws.majorities_are_combinations.Goals as goal

pub returns : goal.returns
returns c = length-sets_from
