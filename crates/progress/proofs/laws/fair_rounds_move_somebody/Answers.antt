use Rattle.std.proofs.Common.{length, refl}
use Rattle.world.specs.Runs.{run_of}
use Rattle.world.specs.Waiting.{block}
use Rattle.world_state.specs.Steps.{dealing_of}
use Rattle.progress.specs.LiveRounds.{everybody}
use Rattle.progress.specs.Rounds.{steps_of}
use Rattle.progress.proofs.block.Blocks.{full_is_block}
use Rattle.progress.proofs.rounds.Fair.{everybody_serves, fair_are_live}
use Rattle.progress.proofs.invariants.Sure.{course_of}
use Rattle.progress.proofs.patience.Waiting.{live_move}
use Rattle.progress.proofs.laws.fair_rounds_move_somebody.Goals as goal

pub returns : goal.returns
returns c w k rounds reached asks fair late left = live_move c.worlds_keep_their_rules.ensures everybody w k (block (length w.state.clients)) (full_is_block c.worlds_keep_their_rules.ensures (course_of everybody w) (length w.state.clients) (λ v. refl)) rounds reached asks (fair_are_live everybody (dealing_of w.plans) w.state rounds (λ d. refl) (λ v. refl) fair) late
    (everybody_serves (course_of everybody w) w.state (run_of (dealing_of w.plans) (steps_of rounds) w.state) (λ d. refl) left)
