use Rattle.progress.proofs.losses.Losses.{heard_anew}
use Rattle.progress.proofs.after_losses.new_requests_are_heard.Goals as goal

pub returns : goal.returns
returns c = heard_anew c.worlds_keep_their_rules.ensures c.parts_keep_their_rules.ensures.clients c.parts_keep_their_rules.ensures.voters
