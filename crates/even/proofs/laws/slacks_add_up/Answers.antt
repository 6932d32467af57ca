use Rattle.even.proofs.SlackLemmas.{count_of-permuted_rows}
use Rattle.even.proofs.laws.slacks_add_up.Goals as goal

pub returns : goal.returns
returns c = count_of-permuted_rows
