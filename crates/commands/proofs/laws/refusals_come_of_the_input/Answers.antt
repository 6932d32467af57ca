use Rattle.commands.proofs.ExecuteLemmas.{own_comes_of_known}
use Rattle.commands.proofs.laws.refusals_come_of_the_input.Goals as goal

pub returns : goal.returns
returns c = own_comes_of_known
