use Rattle.std.proofs.Common.{length}
use Rattle.progress.specs.Patience.{hasty_in}
use Rattle.progress.specs.Rounds.{give_ups_in, late_in, steps_of}
use Rattle.world_state.specs.Steps.{dealing_of}
use Rattle.progress.proofs.patience.Bounds.{bound-of_law, few_hasty}
use Rattle.progress.proofs.laws.rounds_are_enough.Goals as goal

pub returns : goal.returns
returns c = λ w k rounds more reached asks fair goes_on grants none enough seen.
    c.fair_rounds_let_everybody_in.ensures w k rounds more reached asks fair goes_on grants
    (bound-of_law (length w.state.clients) (give_ups_in (steps_of rounds)) (hasty_in (dealing_of w.plans) w.state rounds) (late_in (dealing_of w.plans) 0 w.state rounds) (length rounds)
    (few_hasty (dealing_of w.plans) w.state w.state w.state rounds) none enough) seen
