use Rattle.std.proofs.Common.{length}
use Rattle.progress.specs.LiveRounds.{everybody}
use Rattle.progress.proofs.rounds.Making.{are_timely, made_rounds}
use Rattle.progress.proofs.rounds.Spending.{askers_most, rounds_leave, steps_leave}
use Rattle.progress.proofs.invariants.Sure.{IsSure-reached, course_of}
use Rattle.progress.proofs.patience.Turns.{asks_at}
use Rattle.progress.proofs.laws.fair_rounds_can_be_made.Goals as goal

pub returns-clause-made : goal.returns-clause-made
returns-clause-made c deal w k = (made_rounds deal w k, are_timely deal w k)

pub returns-clause-left : goal.returns-clause-left
returns-clause-left c w steps n reached left =
    let laws = c.worlds_keep_their_rules.ensures in
    steps_leave laws (course_of everybody w) w.state steps n (IsSure-reached laws everybody w reached) left

pub returns-clause-granted : goal.returns-clause-granted
returns-clause-granted c w k n reached left =
    let laws = c.worlds_keep_their_rules.ensures in
    let p = course_of everybody w in
    (made_rounds p.deal w.state k, are_timely p.deal w.state k, rounds_leave laws p w.state (length w.state.clients) k n (IsSure-reached laws everybody w reached) (askers_most (asks_at w.state) 0 (length w.state.clients)) left)
