use Rattle.std.proofs.Common.{length}
use Rattle.progress.proofs.losses.Losses.{after_losses_heeds, after_losses_runs, course_at}
use Rattle.progress.proofs.losses.Olds.{olds_most}
use Rattle.progress.proofs.shade.Shaded.{lets_everybody_in}
use Rattle.progress.proofs.after_losses.live_rounds_let_everybody_in_after_losses.Goals as goal

pub returns : goal.returns
unfolding after_losses_runs
returns c live deal w k rounds more r lives heard asks fair stays gone spares left =
    lets_everybody_in c.worlds_keep_their_rules.ensures (course_at live deal w) w k (length w.voters) rounds more
    (after_losses_runs c.worlds_keep_their_rules.ensures c.parts_keep_their_rules.ensures.clients c.parts_keep_their_rules.ensures.voters live deal w rounds r fair gone spares left)
    (olds_most (course_at live deal w) (length w.voters)) lives (after_losses_heeds c.worlds_keep_their_rules.ensures c.parts_keep_their_rules.ensures.clients c.parts_keep_their_rules.ensures.voters deal w k r heard) asks stays
