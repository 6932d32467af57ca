use Rattle.progress.proofs.rounds.LiveTimely.{timely_reached}
use Rattle.progress.proofs.laws.live_rounds_can_be_made.Goals as goal

pub returns : goal.returns
returns c = timely_reached c.worlds_keep_their_rules.ensures c.parts_keep_their_rules.ensures.clients c.parts_keep_their_rules.ensures.voters c.tickets_deal_quorums_that_meet.ensures
