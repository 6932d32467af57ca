use Rattle.std.proofs.Common.{sym, subst}
use Rattle.certificate.specs.Bounds.{IsBounded}
use Rattle.certificate.specs.Certificates.{load_of, with_weights}
use Rattle.certificate.specs.Ratios.{IsAtMost}
use Rattle.certificate.proofs.BoundLemmas.{IsBounded-weights}
use Rattle.certificate.proofs.RatioLemmas.{AreWeights-certificate}
use Rattle.near.specs.Nearness.{ones_of}
use Rattle.planner.specs.Weights.{HaveNoCommonDivisor}
use Rattle.near.proofs.Rivals.{load-least}
use Rattle.near.proofs.search.weights.Goals as goal

pub returns-then-cycle_len-most-clause-bounded : goal.returns-then-cycle_len-most-clause-bounded
returns-then-cycle_len-most-clause-bounded c =
    let is = c.into_weights.ensures in
    subst IsBounded (sym is.value) (IsBounded-weights c.in-Ok.plan (AreWeights-certificate c.in-Ok.plan is.certificate))

pub returns-then-cycle_len-most-clause-ones : goal.returns-then-cycle_len-most-clause-ones
returns-then-cycle_len-most-clause-ones c =
    let is = c.into_weights.ensures in
    let s = c.args.coterie.now in
    let capacities = c.args.capacities.now in
    λ few. subst (λ w. IsAtMost (load_of w) (load_of (with_weights s capacities (ones_of s) w.voter_weights))) (sym is.value)
    (load-least c.in-Ok.plan s capacities c.in-Ok.plan.voter_weights is.certificate c.in-Ok.ensures.coterie c.in-Ok.ensures.capacities)

pub returns-then-cycle_len-most-clause-lowest : goal.returns-then-cycle_len-most-clause-lowest
returns-then-cycle_len-most-clause-lowest c =
    subst (λ w. HaveNoCommonDivisor w.voter_weights) (sym c.into_weights.ensures.value) c.in-Ok.ensures.lowest.1
