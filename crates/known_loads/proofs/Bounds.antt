-- The bounds of Naor and Wool.
use Rattle.std.proofs.Common.{◌≡◌, ℕ, ◌*◌, ◌<◌, ◌≤◌, List, [], length, get_or, sum, sum_by, sym, ap, subst, ◌∙◌, inl, inr, arith}
use Rattle.std.proofs.lemmas.Bool.{cases_lt}
use Rattle.std.proofs.Math.Nat.{div-le_self, mul-le-mul_left, mul-le-mul_right, le_of_mul-le-mul_right}
use Rattle.divisor.specs.Gcd.{gcd_of, lowest_terms}
use Rattle.divisor.proofs.GcdLemmas.{lowest_terms-exact}
use Rattle.numbers.specs.Counts.{greatest_below}
use Rattle.numbers.specs.Sums.{sum_below}
use Rattle.numbers.proofs.CountLemmas.{greatest_below-le, greatest_below-reached, least_of-reached}
use Rattle.numbers.proofs.SumsBelow.{sum_below-list, sum_below-one, sum_by-one}
use Rattle.quorum_set.specs.Capacities.{AreCapacities}
use Rattle.quorum_set.specs.Coteries.{QuorumSystem, IsCoterie}
use Rattle.certificate.specs.Certificates.{Weighted, busiest_count, cycle_count, cycle_len, cycle_ratio, load_of, unit_load}
use Rattle.certificate.specs.Loads.{weight_within}
use Rattle.certificate.specs.Ratios.{greatest_ratio}
use Rattle.certificate.proofs.RatioLemmas.{greatest_ratio-bound}
use Rattle.known_loads.specs.SmallestQuorums.{smallest_size, smallest_capacity}
use Rattle.certificate.proofs.Duality.{Bears, Bears-cycle}
use Rattle.known_loads.proofs.Duality.{average, one_quorum}

-- Counts without capacities

module _ (s : QuorumSystem) (is : IsCoterie s) (uses : ℕ) (count : ℕ → ℕ) (bears : Bears s.voters s.quorums uses count) where
  unit_bound : (i : ℕ) → i < s.voters → count i * 1 ≤ greatest_below s.voters count * 1
  unit_bound i lt = omega (arith, greatest_below-le s.voters count i lt)

  pub unit_average : uses * smallest_size s ≤ s.voters * greatest_below s.voters count
  unit_average =
      let m = greatest_below s.voters count in
      let all : m * sum_below (λ i. 1) s.voters ≡ m * s.voters = ap (λ t. m * t) (sum_below-one s.voters) in
      omega (arith, average s uses m 1 count (λ i. 1) bears unit_bound, all)

  pub unit_smallest : uses ≤ smallest_size s * greatest_below s.voters count
  unit_smallest =
      let m = greatest_below s.voters count in
      let found = least_of-reached length s.quorums is.some_quorum in
      let size : m * sum_by (λ i. 1) (get_or s.quorums found.0 []) ≡ m * smallest_size s =
      ap (λ t. m * t) (sum_by-one (get_or s.quorums found.0 []) ∙ sym found.2) in
      omega (arith, one_quorum s uses m 1 count (λ i. 1) bears unit_bound is found.0 found.1, size)

  -- the voter of the greatest count
  pub average_voter : (i : ℕ) × (i < s.voters) × (uses * smallest_size s ≤ s.voters * count i)
  average_voter =
      let found = greatest_below-reached s.voters count is.some_voter in
      let top : s.voters * greatest_below s.voters count ≡ s.voters * count found.0 = ap (λ t. s.voters * t) found.2 in
      (found.0, found.1, omega (arith, unit_average, top))

  pub smallest_voter : (i : ℕ) × (i < s.voters) × (uses ≤ smallest_size s * count i)
  smallest_voter =
      let found = greatest_below-reached s.voters count is.some_voter in
      let top : smallest_size s * greatest_below s.voters count ≡ smallest_size s * count found.0 = ap (λ t. smallest_size s * t) found.2 in
      (found.0, found.1, omega (arith, unit_smallest, top))

-- Counts with capacities

module _ (s : QuorumSystem) (is : IsCoterie s) (capacities : List ℕ) (are : AreCapacities capacities s.voters) (uses : ℕ) (count : ℕ → ℕ)
    (bears : Bears s.voters s.quorums uses count) where
  abbrev ratio : ℕ × ℕ
  ratio = greatest_ratio s.voters capacities count

  bound : (i : ℕ) → i < s.voters → count i * ratio.1 ≤ ratio.0 * get_or capacities i 0
  bound = greatest_ratio-bound s.voters capacities count are

  pub capacity_average : uses * smallest_size s * ratio.1 ≤ sum capacities * ratio.0
  capacity_average =
      let all : ratio.0 * sum_below (λ i. get_or capacities i 0) s.voters ≡ ratio.0 * sum capacities =
      ap (λ t. ratio.0 * t) (subst (λ n. sum_below (λ i. get_or capacities i 0) n ≡ sum capacities) are.one_each (sum_below-list (λ x. x) capacities)) in
      omega (arith, average s uses ratio.0 ratio.1 count (λ i. get_or capacities i 0) bears bound, all)

  pub capacity_smallest : uses * ratio.1 ≤ smallest_capacity s capacities * ratio.0
  capacity_smallest =
      let found = least_of-reached (weight_within capacities) s.quorums is.some_quorum in
      let least : ratio.0 * sum_by (λ i. get_or capacities i 0) (get_or s.quorums found.0 []) ≡ ratio.0 * smallest_capacity s capacities =
      ap (λ t. ratio.0 * t) (sym found.2) in
      omega (arith, one_quorum s uses ratio.0 ratio.1 count (λ i. get_or capacities i 0) bears bound is found.0 found.1, least)

-- Loads

-- a bound on a fraction holds in lowest terms
pub lowest_terms-bound : (p d c n : ℕ) → d * c ≤ p * n → c * (lowest_terms p d).1 ≤ n * (lowest_terms p d).0
lowest_terms-bound p d c n le =
    let a = (lowest_terms p d).0 in
    let b = (lowest_terms p d).1 in
    elim (cases_lt 0 d) as (λ _. c * b ≤ n * a) [
      | inl some ↦
          let scaled : b * (d * c) ≤ b * (p * n) = mul-le-mul_left b le in
          let exact : n * (a * d) ≡ n * (p * b) = ap (λ t. n * t) (lowest_terms-exact p d) in
          le_of_mul-le-mul_right {k = d} (omega (arith, scaled, exact)) some
      | inr none ↦
          let small : b ≤ d = div-le_self d (gcd_of p d) in
          let nothing : c * b ≤ c * 0 = mul-le-mul_left c (omega (arith, small, none)) in
          omega (arith, nothing)
    ]

-- both bounds together
square_bound : (a b c n : ℕ) → c * b ≤ n * a → b ≤ c * a → b * b ≤ n * (a * a)
square_bound a b c n low high =
    let one : b * b ≤ b * (c * a) = mul-le-mul_left b high in
    let two : c * b * a ≤ n * a * a = mul-le-mul_right a low in
    omega (arith, one, two)

module _ (w : Weighted) (is : IsCoterie w.system) (long : length w.quorum_weights ≡ length w.system.quorums) where
  pub cycle-average : cycle_len w * smallest_size w.system ≤ w.system.voters * busiest_count w
  cycle-average = unit_average w.system is (cycle_len w) (cycle_count w) (Bears-cycle w.system w.quorum_weights is long)

  pub cycle-smallest : cycle_len w ≤ smallest_size w.system * busiest_count w
  cycle-smallest = unit_smallest w.system is (cycle_len w) (cycle_count w) (Bears-cycle w.system w.quorum_weights is long)

  pub load-average : smallest_size w.system * (unit_load w).1 ≤ w.system.voters * (unit_load w).0
  load-average = lowest_terms-bound (busiest_count w) (cycle_len w) (smallest_size w.system) w.system.voters (omega (arith, cycle-average))

  pub load-smallest : (unit_load w).1 ≤ smallest_size w.system * (unit_load w).0
  load-smallest =
      let bound = lowest_terms-bound (busiest_count w) (cycle_len w) 1 (smallest_size w.system) (omega (arith, cycle-smallest)) in
      omega (arith, bound)

  pub load-square : (unit_load w).1 * (unit_load w).1 ≤ w.system.voters * ((unit_load w).0 * (unit_load w).0)
  load-square = square_bound (unit_load w).0 (unit_load w).1 (smallest_size w.system) w.system.voters load-average load-smallest

module _ (w : Weighted) (is : IsCoterie w.system) (are : AreCapacities w.capacities w.system.voters) (long : length w.quorum_weights ≡ length w.system.quorums) where
  pub capacity_load-average : smallest_size w.system * (load_of w).1 ≤ sum w.capacities * (load_of w).0
  capacity_load-average =
      lowest_terms-bound (cycle_ratio w).0 ((cycle_ratio w).1 * cycle_len w) (smallest_size w.system) (sum w.capacities)
      (omega (arith, capacity_average w.system is w.capacities are (cycle_len w) (cycle_count w) (Bears-cycle w.system w.quorum_weights is long)))

  pub capacity_load-smallest : (load_of w).1 ≤ smallest_capacity w.system w.capacities * (load_of w).0
  capacity_load-smallest =
      let low = lowest_terms-bound (cycle_ratio w).0 ((cycle_ratio w).1 * cycle_len w) 1 (smallest_capacity w.system w.capacities)
      (omega (arith, capacity_smallest w.system is w.capacities are (cycle_len w) (cycle_count w) (Bears-cycle w.system w.quorum_weights is long))) in
      omega (arith, low)
