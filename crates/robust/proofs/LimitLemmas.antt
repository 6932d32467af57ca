-- The limit of the load is at least the load.
use Rattle.std.proofs.Common.{ℕ, ◌+◌, ◌*◌, ◌<◌, arith}
use Rattle.divisor.proofs.GcdLemmas.{lowest_terms-exact, lowest_terms-some}
use Rattle.certificate.specs.Certificates.{Weighted, AreWeights, cycle_len, cycle_ratio, load_of}
use Rattle.certificate.specs.Ratios.{IsAtMost}
use Rattle.certificate.proofs.RatioLemmas.{IsAtMost-trans, load_of-some}
use Rattle.robust.specs.Robust.{limit_above}

pub load-limit_above : (thousandths : ℕ) (w : Weighted) → AreWeights w → IsAtMost (load_of w) (limit_above thousandths w)
load-limit_above thousandths w h =
    let load = load_of w in
    let top = load.0 * (1000 + thousandths) in
    let some : 0 < load.1 = lowest_terms-some (cycle_ratio w).0 ((cycle_ratio w).1 * cycle_len w) (load_of-some w h) in
    let bottom : 0 < load.1 * 1000 = omega (arith, some) in
    IsAtMost-trans load (top, load.1 * 1000) (limit_above thousandths w) bottom (omega arith) (omega (arith, lowest_terms-exact top (load.1 * 1000)))
