use Rattle.std.proofs.Common.{◌+◌, ◌*◌, ◌≤◌, length, refl, sym, subst}
use Rattle.numbers.proofs.SumsBelow.{sum_below-one}
use Rattle.world.specs.Runs.{run_of}
use Rattle.world.specs.Waiting.{block}
use Rattle.world_state.specs.Steps.{dealing_of}
use Rattle.progress.specs.LiveRounds.{everybody}
use Rattle.progress.specs.Rounds.{give_ups_in, late_in, steps_of}
use Rattle.progress.proofs.block.Blocks.{full_is_block}
use Rattle.progress.proofs.rounds.Fair.{everybody_serves, fair_are_live}
use Rattle.progress.proofs.invariants.Sure.{course_of}
use Rattle.progress.proofs.patience.Waiting.{live_somebody}
use Rattle.progress.proofs.laws.fair_rounds_let_somebody_in.Goals as goal

pub returns : goal.returns
returns c w k rounds more reached asks fair stays left long visible =
    let one = live_somebody c.worlds_keep_their_rules.ensures everybody w k (block (length w.state.clients)) (full_is_block c.worlds_keep_their_rules.ensures (course_of everybody w) (length w.state.clients) (λ v. refl)) rounds more reached asks (fair_are_live everybody (dealing_of w.plans) w.state rounds (λ d. refl) (λ v. refl) fair) stays
    (everybody_serves (course_of everybody w) w.state (run_of (dealing_of w.plans) (steps_of rounds) w.state) (λ d. refl) left)
    (subst (λ i. block (length w.state.clients) * (i + 2 * give_ups_in (steps_of rounds) + late_in (dealing_of w.plans) 0 w.state rounds) ≤ length rounds) (sym (sum_below-one (length w.state.clients))) long) visible in
    (one.0, one.2)
