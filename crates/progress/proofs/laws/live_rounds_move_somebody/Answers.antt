use Rattle.std.proofs.Common.{arith}
use Rattle.progress.proofs.shade.Shaded.{moves_somebody, reached_olds, reached_runs}
use Rattle.progress.proofs.invariants.Sure.{course_of}
use Rattle.progress.proofs.laws.live_rounds_move_somebody.Goals as goal

pub returns : goal.returns
returns c live w k rounds reached lives asks fair late gone spares left long = moves_somebody c.worlds_keep_their_rules.ensures (course_of live w) w.state k 0 rounds
    (reached_runs c.worlds_keep_their_rules.ensures c.parts_keep_their_rules.ensures.clients c.parts_keep_their_rules.ensures.voters c.tickets_deal_quorums_that_meet.ensures live w rounds reached fair gone spares left) (reached_olds live w) lives asks late (omega arith)
