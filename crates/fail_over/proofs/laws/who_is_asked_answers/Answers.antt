use Rattle.fail_over.proofs.ChoiceLemmas.{answers}
use Rattle.fail_over.proofs.laws.who_is_asked_answers.Goals as goal

pub returns : goal.returns
returns c = answers
