use Rattle.passes.proofs.TurnOrder.{two_turns}
use Rattle.passes.proofs.laws.turns_grow.Goals as goal

pub returns : goal.returns
returns c count quorums voters first second turn later coterie limits is_first is_second one two =
    two_turns c.parts_keep_their_rules.ensures.voters voters limits count quorums coterie
    (λ v g a s b t x y. c.numbers_name_requests.ensures v (voters.limit v) (voters.life v) g a s b t (limits v) x y)
    first second turn later is_first is_second one two
