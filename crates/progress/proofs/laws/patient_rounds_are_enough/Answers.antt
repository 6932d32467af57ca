use Rattle.std.proofs.Common.{length}
use Rattle.progress.specs.Patience.{hasty_in}
use Rattle.progress.specs.Rounds.{late_in}
use Rattle.world_state.specs.Steps.{dealing_of}
use Rattle.progress.proofs.patience.Bounds.{patient_bound-of_law}
use Rattle.progress.proofs.laws.patient_rounds_are_enough.Goals as goal

pub returns : goal.returns
returns c = λ w k rounds more reached asks fair patient goes_on grants none enough seen.
    c.fair_rounds_let_everybody_in.ensures w k rounds more reached asks fair goes_on grants
    (patient_bound-of_law (length w.state.clients) (hasty_in (dealing_of w.plans) w.state rounds) (late_in (dealing_of w.plans) 0 w.state rounds) (length rounds) patient none enough) seen
