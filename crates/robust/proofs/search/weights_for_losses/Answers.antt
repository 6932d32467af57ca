use Rattle.std.proofs.Common.{sym, subst}
use Rattle.certificate.specs.Certificates.{load_of}
use Rattle.certificate.specs.Ratios.{IsAtMost}
use Rattle.robust.proofs.LimitLemmas.{load-limit_above}
use Rattle.robust.proofs.search.weights_for_losses.Goals as goal

pub loop-init : goal.loop-init
loop-init c =
    let w = c.in_ok-weights.weights in
    let found = c.in_ok-weights.ensures in
    record {
      within = record {
        system = found.coterie;
        same_capacities = found.capacities;
        weights = found.weights;
        short = found.short;
        load = subst (IsAtMost (load_of w)) (sym c.limit_of-limit.ensures) (load-limit_above c.args.above w found.weights);
      };
      planned = c.in_ok-failures.ensures;
    }
