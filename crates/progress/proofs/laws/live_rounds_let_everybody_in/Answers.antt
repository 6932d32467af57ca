use Rattle.std.proofs.Common.{[], ◌+◌, ◌*◌, length}
use Rattle.world.specs.Waiting.{live_block}
use Rattle.world_state.specs.Steps.{dealing_of}
use Rattle.progress.specs.LiveRounds.{live_below}
use Rattle.progress.specs.Moves.{hasty_among, late_among}
use Rattle.progress.proofs.invariants.Always.{heeds}
use Rattle.progress.proofs.invariants.Kept.{IsKept-reached}
use Rattle.progress.proofs.shade.Shaded.{lets_everybody_in, plus_none, reached_olds, reached_runs}
use Rattle.progress.proofs.invariants.Sure.{course_of}
use Rattle.progress.proofs.laws.live_rounds_let_everybody_in.Goals as goal

pub returns : goal.returns
unfolding reached_runs
returns c live w k rounds more reached lives asks fair stays gone spares left long = lets_everybody_in c.worlds_keep_their_rules.ensures (course_of live w) w.state k 0 rounds more
    (reached_runs c.worlds_keep_their_rules.ensures c.parts_keep_their_rules.ensures.clients c.parts_keep_their_rules.ensures.voters c.tickets_deal_quorums_that_meet.ensures live w rounds reached fair gone spares left) (reached_olds live w) lives (heeds k w.state (IsKept-reached c.worlds_keep_their_rules.ensures w reached []).always) asks stays
    (plus_none (live_block (length w.state.clients)) (3 * live_below live (length w.state.clients) + 2 * hasty_among (dealing_of w.plans) w.state rounds + late_among (dealing_of w.plans) 0 w.state rounds) (length rounds) long)
