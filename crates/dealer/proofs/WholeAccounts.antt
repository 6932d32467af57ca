-- The account of the tickets of k whole cycles.
use Rattle.std.proofs.Common.{◌≡◌, ℕ, ◌*◌, true, List, map, ap, ◌∙◌, arith}
use Rattle.quorum_set.specs.Capacities.{are_unit}
use Rattle.certificate.specs.Certificates.{Weighted, IsCertificate, IsOptimal, busiest_count}
use Rattle.certificate.proofs.UnitCapacities.{IsUnitOptimal-IsOptimal}
use Rattle.dealer.specs.declared.account.Account.{Account}
use Rattle.dealer.specs.Accounts.{account_of, ratio_of_cycles, IsWholeCycles, IsLeastBusiest, IsLeastRatio}
use Rattle.dealer.proofs.AccountLemmas.{busiest_of-least, busiest_of-whole, quorums-whole, ratio_of-whole}
use Rattle.dealer.proofs.RatioLemmas.{IsLeastRatio-cycles}

module _ (w : Weighted) (k : ℕ) (tickets : List ℕ) (is : IsCertificate w) (whole : IsWholeCycles w k tickets) (a : Account) (same : a ≡ account_of w tickets) where
  pub whole-shares : a.quorums ≡ map (λ weight. k * weight) w.quorum_weights
  whole-shares = ap (λ (a : Account). a.quorums) same ∙ quorums-whole w k tickets is whole

  pub whole-even : a.busiest ≡ k * busiest_count w
  whole-even = ap (λ (a : Account). a.busiest) same ∙ busiest_of-whole w k tickets is whole

  pub whole-ratio : a.ratio ≡ ratio_of_cycles w k
  whole-ratio = ap (λ (a : Account). a.ratio) same ∙ ratio_of-whole w k tickets is whole

  pub whole-least_ratio : IsOptimal w → IsLeastRatio w a.drawn a.ratio
  whole-least_ratio optimal =
      IsLeastRatio-cycles w k a.drawn a.ratio is optimal (ap (λ (a : Account). a.drawn) same ∙ whole.in_all) whole-ratio

  pub whole-least : IsOptimal w → are_unit w.capacities ≡ true → IsLeastBusiest w a.drawn a.busiest
  whole-least optimal units list long within =
      let by_units = IsUnitOptimal-IsOptimal w is.capacities.one_each units optimal in
      let as_long = long ∙ ap (λ (a : Account). a.drawn) same ∙ whole.in_all in
      omega (arith, whole-even, busiest_of-least w k list is by_units as_long within)
