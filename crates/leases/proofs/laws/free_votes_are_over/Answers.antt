use Rattle.leases.proofs.Rebirths.{every_free_vote}
use Rattle.leases.proofs.laws.free_votes_are_over.Goals as goal

pub returns : goal.returns
returns c = every_free_vote c.parts_keep_their_rules.ensures.clients c.parts_keep_their_rules.ensures.voters
