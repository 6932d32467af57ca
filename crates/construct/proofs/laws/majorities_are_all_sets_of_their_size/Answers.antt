use Rattle.construct.proofs.MajorityLemmas.{IsChoice-sets_from, Contains-sets_from}
use Rattle.construct.proofs.laws.majorities_are_all_sets_of_their_size.Goals as goal

pub returns-clause-listed : goal.returns-clause-listed
returns-clause-listed c = λ low n k j d lt. let choice = IsChoice-sets_from low n k j d lt in (choice.ascends, choice.long)

pub returns-clause-complete : goal.returns-clause-complete
returns-clause-complete c = Contains-sets_from
