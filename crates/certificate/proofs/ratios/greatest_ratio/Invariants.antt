use Rattle.std.proofs.Common.{◌≡◌, ◌<◌, get_or}
use Rattle.certificate.specs.Ratios.{greatest_fraction}
use Rattle.certificate.proofs.ratios.greatest_ratio.Given as goal

abbrev pub invariant-loop-i : goal.invariant-loop-i
invariant-loop-i l = (l.ratio ≡ greatest_fraction l.i (λ i. (get_or l.counts i 0, get_or l.capacities i 0))) × (0 < l.ratio.1)
