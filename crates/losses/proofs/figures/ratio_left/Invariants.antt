use Rattle.std.proofs.Common.{◌≡◌, ◌<◌, ℕ, length, get_or}
use Rattle.certificate.specs.Loads.{weight_on}
use Rattle.losses.specs.Losses.{each_left}
use Rattle.losses.proofs.figures.ratio_left.Given as goal

abbrev pub invariant-loop-voter : goal.invariant-loop-voter
invariant-loop-voter l = (length l.counts ≡ 64) × ((i : ℕ) → i < l.voter → get_or l.counts i 0 ≡ weight_on i l.coterie.quorums (each_left l.down l.coterie.quorums l.weights))
