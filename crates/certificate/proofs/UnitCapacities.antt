-- Capacities that are all 1.
use Rattle.std.proofs.Common.{◌≡◌, ℕ, ◌+◌, ◌*◌, ◌<◌, ◌≤◌, ◌↔◌, true, eqb, List, [], ◌∷◌, length, get_or, map, zero, suc, sym, refl, ap, ap₂, subst, ◌∙◌, arith}
use Rattle.std.specs.List.{range_with_len}
use Rattle.std.proofs.lemmas.Bool.{and_parts, eqb-true}
use Rattle.std.proofs.lemmas.List.FromFn.{length-map-range_with_len}
use Rattle.std.proofs.lemmas.List.Sums.{AllPass-from_list_all}
use Rattle.std.proofs.Math.Nat.{mul-le-mul_right}
use Rattle.divisor.specs.Gcd.{lowest_terms}
use Rattle.divisor.proofs.GcdLemmas.{lowest_terms-one}
use Rattle.numbers.specs.Counts.{greatest_below}
use Rattle.numbers.specs.Sums.{sum_below}
use Rattle.numbers.proofs.CountLemmas.{greatest_below-le, greatest_below-reached}
use Rattle.numbers.proofs.SumsBelow.{sum_below-list, sum_below-same}
use Rattle.quorum_set.specs.Capacities.{AreCapacities, are_unit, unit_capacities}
use Rattle.quorum_set.specs.Coteries.{IsCoterie}
use Rattle.quorum_set.specs.Counts.{count_of, busiest_of}
use Rattle.certificate.specs.Certificates.{Weighted, IsCertificate, IsOptimal, IsUnitCertificate, IsUnitOptimal, busiest_count, capacity_total, cycle_count, cycle_len, cycle_ratio}
use Rattle.certificate.specs.Certificates.{lightest_quorum, load_of, unit_load, voter_total}
use Rattle.certificate.specs.Ratios.{greatest_ratio}
use Rattle.certificate.proofs.RatioLemmas.{greatest_ratio-is}

-- each of them is 1
pub get_or-are_unit : (capacities : List ℕ) → are_unit capacities ≡ true → (i d : ℕ) → i < length capacities → get_or capacities i d ≡ 1
get_or-are_unit capacities unit i d lt = eqb-true (get_or capacities i d) 1 (AllPass-from_list_all (λ c. eqb c 1) capacities unit i d lt)

pub AreCapacities-are_unit : (capacities : List ℕ) (n : ℕ) → length capacities ≡ n → are_unit capacities ≡ true → AreCapacities capacities n
AreCapacities-are_unit capacities n long unit = record {
  one_each = long;
  in_range = λ i d lt. (omega (arith, get_or-are_unit capacities unit i d lt), omega (arith, get_or-are_unit capacities unit i d lt));
}

-- they are the list of n ones
are_unit-range : (a n : ℕ) → are_unit (map (λ i. 1) (range_with_len a n)) ≡ true
are_unit-range a zero = refl
are_unit-range a (suc n) = are_unit-range (a + 1) n

range-are_unit : (capacities : List ℕ) (a n : ℕ) → length capacities ≡ n → are_unit capacities ≡ true → capacities ≡ map (λ i. 1) (range_with_len a n)
range-are_unit [] a zero long unit = refl
range-are_unit [] a (suc n) long unit = absurd (omega arith)
range-are_unit (x ∷ xs) a zero long unit = absurd (omega arith)
range-are_unit (x ∷ xs) a (suc n) long unit =
    let parts = and_parts (eqb x 1) (are_unit xs) unit in
    ap₂ (λ y ys. y ∷ ys) (eqb-true x 1 parts.0) (range-are_unit xs (a + 1) n (omega arith) parts.1)

pub are_unit-unit_capacities : (capacities : List ℕ) (n : ℕ) → capacities ≡ unit_capacities n → are_unit capacities ≡ true
are_unit-unit_capacities capacities n e = ap are_unit e ∙ are_unit-range 0 n

pub length-unit_capacities : (capacities : List ℕ) (n : ℕ) → capacities ≡ unit_capacities n → length capacities ≡ n
length-unit_capacities capacities n e = ap length e ∙ length-map-range_with_len (λ i. 1) 0 n

pub are_unit-iff : (capacities : List ℕ) (n : ℕ) → length capacities ≡ n → (are_unit capacities ≡ true) ↔ (capacities ≡ unit_capacities n)
are_unit-iff capacities n long = (range-are_unit capacities 0 n long, are_unit-unit_capacities capacities n)

pub AreCapacities-unit_capacities : (n : ℕ) → AreCapacities (unit_capacities n) n
AreCapacities-unit_capacities n =
    AreCapacities-are_unit (unit_capacities n) n (length-map-range_with_len (λ i. 1) 0 n) (are_unit-range 0 n)

-- a ratio is the greatest count, over 1
pub greatest_ratio-are_unit : (n : ℕ) (capacities : List ℕ) (count : ℕ → ℕ) → length capacities ≡ n → are_unit capacities ≡ true
    → greatest_ratio n capacities count ≡ (greatest_below n count, 1)
unfolding greatest_ratio
greatest_ratio-are_unit zero capacities count long unit = lowest_terms-one 0
greatest_ratio-are_unit (suc n) capacities count long unit =
    let most = greatest_below (suc n) count in
    let at : (i : ℕ) → i < suc n → get_or capacities i 0 ≡ 1 = λ i lt. get_or-are_unit capacities unit i 0 (omega (arith, lt, long)) in
    let found = greatest_below-reached (suc n) count (omega arith) in
    greatest_ratio-is (suc n) capacities count (AreCapacities-are_unit capacities (suc n) long unit) most 1 (omega arith)
    (λ i lt. le_one (count i) most (get_or capacities i 0) (at i lt) (greatest_below-le (suc n) count i lt))
    found.0 found.1 (ge_one (count found.0) most (get_or capacities found.0 0) (at found.0 found.1) found.2)
    ∙ lowest_terms-one most
  where
    le_one : (x m c : ℕ) → c ≡ 1 → x ≤ m → x * 1 ≤ m * c
    le_one x m c e le = rw e (omega (arith, le))

    ge_one : (x m c : ℕ) → c ≡ 1 → m ≡ x → m * c ≤ x * 1
    ge_one x m c e same = rw e (omega (arith, same))

module _ (w : Weighted) (long : length w.capacities ≡ w.system.voters) (unit : are_unit w.capacities ≡ true) where
  pub cycle_ratio-are_unit : cycle_ratio w ≡ (busiest_count w, 1)
  cycle_ratio-are_unit = greatest_ratio-are_unit w.system.voters w.capacities (cycle_count w) long unit

  ratio-top : (cycle_ratio w).0 ≡ busiest_count w
  ratio-top = ap (λ r. r.0) cycle_ratio-are_unit

  ratio-one : (cycle_ratio w).1 ≡ 1
  ratio-one = ap (λ r. r.1) cycle_ratio-are_unit

  -- the weights' sum, with capacities and without
  pub capacity_total-are_unit : length w.voter_weights ≡ w.system.voters → capacity_total w ≡ voter_total w
  capacity_total-are_unit voters =
      let same = sum_below-same w.system.voters (λ i. get_or w.voter_weights i 0 * get_or w.capacities i 0) (λ i. get_or w.voter_weights i 0)
      (λ i lt. times_one (get_or w.voter_weights i 0) (get_or w.capacities i 0) (get_or-are_unit w.capacities unit i 0 (omega (arith, lt, long)))) in
      same ∙ subst (λ n. sum_below (λ i. get_or w.voter_weights i 0) n ≡ voter_total w) voters (sum_below-list (λ x. x) w.voter_weights)
    where
      times_one : (b c : ℕ) → c ≡ 1 → b * c ≡ b
      times_one b c e = rw e (omega arith)

  -- both sides of the balance
  balance-left : length w.voter_weights ≡ w.system.voters → (cycle_ratio w).0 * capacity_total w ≡ busiest_count w * voter_total w
  balance-left voters = ap₂ (λ x y. x * y) ratio-top (capacity_total-are_unit voters)

  balance-right : (cycle_ratio w).1 * lightest_quorum w * cycle_len w ≡ lightest_quorum w * cycle_len w
  balance-right = ap (λ x. x * lightest_quorum w * cycle_len w) ratio-one ∙ once (lightest_quorum w) (cycle_len w)
    where
      once : (t d : ℕ) → 1 * t * d ≡ t * d
      once t d = omega arith

  pub IsUnitCertificate-IsCertificate : IsCertificate w → IsUnitCertificate w
  IsUnitCertificate-IsCertificate h = record {
    coterie = h.coterie;
    quorums = h.quorums;
    voters = h.voters;
    some_quorum = h.some_quorum;
    few_quorums = h.few_quorums;
    some_voter = h.some_voter;
    few_voters = h.few_voters;
    balanced = sym (balance-left h.voters) ∙ h.balanced ∙ balance-right;
  }

  pub IsCertificate-IsUnitCertificate : IsUnitCertificate w → IsCertificate w
  IsCertificate-IsUnitCertificate h = record {
    coterie = h.coterie;
    capacities = AreCapacities-are_unit w.capacities w.system.voters long unit;
    quorums = h.quorums;
    voters = h.voters;
    some_quorum = h.some_quorum;
    few_quorums = h.few_quorums;
    some_voter = h.some_voter;
    few_voters = h.few_voters;
    balanced = balance-left h.voters ∙ h.balanced ∙ sym balance-right;
  }

  pub IsUnitOptimal-IsOptimal : IsOptimal w → IsUnitOptimal w
  IsUnitOptimal-IsOptimal optimal list small =
      let found = optimal list small in
      let at = get_or-are_unit w.capacities unit found.0 0 (omega (arith, found.1, long)) in
      let most = greatest_below-le w.system.voters (λ i. count_of w.system i list) found.0 found.1 in
      without (length list) (cycle_ratio w).0 (busiest_count w) (get_or w.capacities found.0 0) (count_of w.system found.0 list) (cycle_ratio w).1 (cycle_len w) (busiest_of w.system list)
      ratio-top at ratio-one found.2 most
    where
      without : (n p m c count q d most : ℕ) → p ≡ m → c ≡ 1 → q ≡ 1 → n * p * c ≤ count * q * d → count ≤ most → n * m ≤ most * d
      without n p m c count q d most ep ec eq le up =
          let left : n * p * c ≡ n * m * 1 = ap₂ (λ x y. n * x * y) ep ec in
          let right : count * q * d ≡ count * 1 * d = ap (λ x. count * x * d) eq in
          let scaled : count * d ≤ most * d = mul-le-mul_right d up in
          omega (arith, left, right, scaled, le)

  pub IsOptimal-IsUnitOptimal : IsCoterie w.system → IsUnitOptimal w → IsOptimal w
  IsOptimal-IsUnitOptimal coterie optimal list small =
      let found = greatest_below-reached w.system.voters (λ i. count_of w.system i list) coterie.some_voter in
      let at = get_or-are_unit w.capacities unit found.0 0 (omega (arith, found.1, long)) in (
        found.0,
        found.1,
        with_ones (length list) (cycle_ratio w).0 (busiest_count w) (get_or w.capacities found.0 0) (count_of w.system found.0 list) (cycle_ratio w).1 (cycle_len w) (busiest_of w.system list)
            ratio-top at ratio-one found.2 (optimal list small),
      )
    where
      with_ones : (n p m c count q d most : ℕ) → p ≡ m → c ≡ 1 → q ≡ 1 → most ≡ count → n * m ≤ most * d → n * p * c ≤ count * q * d
      with_ones n p m c count q d most ep ec eq same le =
          let left : n * p * c ≡ n * m * 1 = ap₂ (λ x y. n * x * y) ep ec in
          let right : count * q * d ≡ count * 1 * d = ap (λ x. count * x * d) eq in
          let top : most * d ≡ count * d = ap (λ x. x * d) same in
          omega (arith, left, right, top, le)

  pub load_of-are_unit : load_of w ≡ unit_load w
  load_of-are_unit = ap₂ lowest_terms ratio-top (ap (λ x. x * cycle_len w) ratio-one ∙ once (cycle_len w))
    where
      once : (d : ℕ) → 1 * d ≡ d
      once d = omega arith
