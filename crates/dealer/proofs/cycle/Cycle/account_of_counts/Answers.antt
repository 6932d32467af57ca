use Rattle.std.proofs.Common.{◌≡◌, ℕ, List, ◌∙◌, ap, ap₂, sym, subst, get_or, length, sum, arith}
use Rattle.quorum_set.specs.Capacities.{AreCapacities}
use Rattle.quorum_set.specs.Counts.{count_of}
use Rattle.numbers.specs.Counts.{greatest_below}
use Rattle.certificate.specs.Certificates.{Weighted, IsCertificate, IsOptimal}
use Rattle.certificate.specs.Ratios.{greatest_ratio}
use Rattle.dealer.specs.Accounts.{account_of, quorums_named}
use Rattle.dealer.proofs.AccountLemmas.{length-values_below, voters-from_quorums, greatest_below-values, account_of-parts}
use Rattle.dealer.proofs.RatioLemmas.{greatest_ratio-values}
use Rattle.dealer.proofs.cycle.Cycle.account_of_counts.Goals as goal

pub counts_of_voters-requires-clause-lengths : goal.counts_of_voters-requires-clause-lengths
counts_of_voters-requires-clause-lengths c =
    omega (
      arith,
      c.requires.lengths,
      ap length c.deref.ensures.value,
      ap (λ s. length s.quorums) c.coterie.ensures.value,
      ap (λ (w : Weighted). length w.system.quorums) c.self.view_is,
    )

pub counts_of_voters-requires-clause-fits : goal.counts_of_voters-requires-clause-fits
counts_of_voters-requires-clause-fits c = omega (arith, c.requires.fits, ap sum c.deref.ensures.value)

pub greatest_ratio-ratio-requires : goal.greatest_ratio-ratio-requires
greatest_ratio-ratio-requires c =
    let is = subst IsCertificate c.self.view_is c.self.invariant.certificate in
    let given = c.capacities.ensures.value ∙ ap (λ (v : Weighted). v.capacities) c.self.view_is in
    let voters = ap (λ s. s.voters) c.coterie.ensures.value ∙ ap (λ (v : Weighted). v.system.voters) c.self.view_is in
    let long = ap length (c.deref-3.ensures.value ∙ c.in_ok-voters.ensures) ∙ length-values_below _ _ ∙ voters in
    record { capacities = subst (λ n. AreCapacities c.capacities.result.now n) (sym long) (subst (λ cs. AreCapacities cs c.args.self.now.system.voters) (sym given) is.capacities) }

pub returns-clause-value : goal.returns-clause-value
returns-clause-value c = λ tickets long counted.
    let w = c.args.self.now in
    let certified = subst IsCertificate c.self.view_is c.self.invariant.certificate in
    let capacities = c.capacities.ensures.value ∙ ap (λ (v : Weighted). v.capacities) c.self.view_is in
    let voters : c.in_ok-voters.voters.items ≡ (account_of w tickets).voters =
    voters-from_quorums w tickets c.coterie.result.now c.deref.result.now c.in_ok-voters.voters.items certified
    (c.coterie.ensures.value ∙ ap (λ (v : Weighted). v.system) c.self.view_is)
    (c.deref.ensures.value ∙ counted)
    c.in_ok-voters.ensures in
    let busiest : c.greatest_of-busiest.result ≡ (account_of w tickets).busiest =
    c.greatest_of-busiest.ensures
    ∙ ap (λ (list : List ℕ). greatest_below (length list) (λ i. get_or list i 0)) (c.deref-2.ensures.value ∙ voters)
    ∙ greatest_below-values w.system.voters (λ i. count_of w.system i (quorums_named w tickets)) in
    let ratio : c.greatest_ratio-ratio.result ≡ (account_of w tickets).ratio =
    c.greatest_ratio-ratio.ensures.ratio
    ∙ ap₂ (λ (list given : List ℕ). greatest_ratio (length list) given (λ i. get_or list i 0)) (c.deref-3.ensures.value ∙ voters) capacities
    ∙ greatest_ratio-values w.system.voters w.capacities (λ i. count_of w.system i (quorums_named w tickets)) in
    ap (λ n. record { drawn = n; quorums = c.from.result; voters = c.from-2.result; busiest = c.greatest_of-busiest.result; ratio = c.greatest_ratio-ratio.result }) (sym long)
    ∙ account_of-parts w tickets c.from.result c.from-2.result c.greatest_of-busiest.result c.greatest_ratio-ratio.result
    (c.from.ensures ∙ counted) (c.from-2.ensures ∙ voters) busiest ratio

pub returns-clause-certificate : goal.returns-clause-certificate
returns-clause-certificate c = subst IsCertificate c.self.view_is c.self.invariant.certificate

pub returns-clause-optimal : goal.returns-clause-optimal
returns-clause-optimal c = subst IsOptimal c.self.view_is c.self.invariant.optimal
