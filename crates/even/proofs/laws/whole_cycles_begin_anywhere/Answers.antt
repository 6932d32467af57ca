use Rattle.certificate.proofs.EvenCycles.{busiest_of-even, ratio_of-even}
use Rattle.certificate.proofs.RatioLemmas.{AreWeights-certificate}
use Rattle.dealer.proofs.RatioLemmas.{IsLeastRatio-cycles}
use Rattle.even.proofs.WindowLemmas.{length-permuted_rows, times-permuted_rows, times-window}
use Rattle.even.specs.EvenCycles.{total_of}
use Rattle.even.proofs.laws.whole_cycles_begin_anywhere.Goals as goal

pub returns-clause-row : goal.returns-clause-row
returns-clause-row c = λ o first k j is fair. times-window o first k j is.some_quorum fair

pub returns-clause-shares : goal.returns-clause-shares
returns-clause-shares c = λ o cycles list is fair permuted. times-permuted_rows o cycles list is.some_quorum fair permuted

pub returns-clause-busiest : goal.returns-clause-busiest
returns-clause-busiest c = λ o cycles list is fair permuted.
    busiest_of-even o.weights (total_of cycles) list is.quorums (times-permuted_rows o cycles list is.some_quorum fair permuted)

pub returns-clause-ratio : goal.returns-clause-ratio
returns-clause-ratio c = λ o cycles list is fair permuted.
    ratio_of-even o.weights (total_of cycles) list is (times-permuted_rows o cycles list is.some_quorum fair permuted)

pub returns-clause-least : goal.returns-clause-least
returns-clause-least c = λ o cycles list is optimal fair permuted.
    IsLeastRatio-cycles o.weights (total_of cycles) _ _ is optimal (length-permuted_rows o cycles list permuted)
    (ratio_of-even o.weights (total_of cycles) list (AreWeights-certificate o.weights is) (times-permuted_rows o cycles list is.some_quorum fair permuted))
