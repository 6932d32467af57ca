use Rattle.progress.proofs.rounds.Longer.{IsFairRound-more}
use Rattle.progress.proofs.laws.rounds_may_be_longer.Goals as goal

pub returns : goal.returns
returns c = IsFairRound-more c.worlds_keep_their_rules.ensures
