-- Optimal weights beside weights 1 of all quorums.
use Rattle.std.proofs.Common.{◌≡◌, ℕ, ◌<◌, List, length, sym, subst, arith}
use Rattle.std.proofs.lemmas.List.{length-replicate}
use Rattle.std.proofs.lemmas.List.Folds.{sum_by-replicate}
use Rattle.quorum_set.specs.Coteries.{QuorumSystem}
use Rattle.certificate.specs.Certificates.{Weighted, IsCertificate, cycle_len, load_of, with_weights}
use Rattle.certificate.specs.Ratios.{IsAtMost}
use Rattle.certificate.proofs.BoundLemmas.{IsBounded-weights, bound_of-certificate}
use Rattle.certificate.proofs.RatioLemmas.{AreWeights-certificate}
use Rattle.near.specs.Nearness.{ones_of}

-- no weights of a plan's coterie have a smaller load than the plan
pub load-least : (w : Weighted) (s : QuorumSystem) (capacities voters : List ℕ) → IsCertificate w → w.system ≡ s → w.capacities ≡ capacities
    → IsAtMost (load_of w) (load_of (with_weights s capacities (ones_of s) voters))
load-least w s capacities voters h system same =
    let v = with_weights s capacities (ones_of s) voters in
    let some : 0 < length s.quorums = subst (λ (t : QuorumSystem). 0 < length t.quorums) system h.coterie.some_quorum in
    let positive : 0 < cycle_len v = omega (arith, sum_by-replicate (λ x. x) (length s.quorums) 1, some) in
    subst (λ b. IsAtMost b (load_of v)) (sym (bound_of-certificate w h))
    (IsBounded-weights w (AreWeights-certificate w h) v (record { system = sym system; capacities = sym same; quorums = length-replicate (length s.quorums) 1; some_quorum = positive }))
