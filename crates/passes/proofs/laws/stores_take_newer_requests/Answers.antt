use Rattle.passes.proofs.TurnOrder.{taken_in_order}
use Rattle.passes.proofs.laws.stores_take_newer_requests.Goals as goal

pub returns : goal.returns
returns c count quorums voters entries coterie limits all taken =
    taken_in_order c.parts_keep_their_rules.ensures.voters voters limits count quorums coterie
    (λ v g a s b t x y. c.numbers_name_requests.ensures v (voters.limit v) (voters.life v) g a s b t (limits v) x y)
    entries all taken
