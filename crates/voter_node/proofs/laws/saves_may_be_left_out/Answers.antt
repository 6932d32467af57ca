use Rattle.voter_node.proofs.LeftOutLemmas.{all_turns}
use Rattle.voter_node.proofs.laws.saves_may_be_left_out.Goals as goal

pub returns : goal.returns
returns c = all_turns
