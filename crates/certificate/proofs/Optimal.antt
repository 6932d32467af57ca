-- Weights whose loads meet are optimal.
use Rattle.std.proofs.Common.{◌≡◌, ℕ, ◌*◌, ◌<◌, ◌≤◌, List, [], length, get_or, ap, subst, arith}
use Rattle.std.specs.List.{All}
use Rattle.numbers.specs.Sums.{sum_below}
use Rattle.quorum_set.specs.Coteries.{QuorumSystem}
use Rattle.std.proofs.Math.Nat.{mul-le-mul_left, mul-le-mul_right, le_of_mul-le-mul_right}
use Rattle.numbers.proofs.CountLemmas.{least_of-le}
use Rattle.numbers.proofs.SumsBelow.{sum_below-cross, sum_below-le, sum_below-list}
use Rattle.quorum_set.specs.Capacities.{AreCapacities}
use Rattle.quorum_set.specs.Counts.{count_of}
use Rattle.certificate.specs.Loads.{weight_within}
use Rattle.certificate.specs.Certificates.{Weighted, AreWeights, IsCertificate, IsOptimal, cycle_len, cycle_ratio, capacity_total, voter_total, lightest_quorum}
use Rattle.certificate.specs.Ratios.{ratio_of}
use Rattle.certificate.proofs.Duality.{Bears-list}
use Rattle.certificate.proofs.RatioLemmas.{AreWeights-certificate, capacity-some, greatest_ratio-bound, greatest_ratio-reached, greatest_ratio-some}

-- each voter's weight as often as the list names the voter
abbrev weighed : QuorumSystem → List ℕ → List ℕ → ℕ
weighed s b list = sum_below (λ i. get_or b i 0 * count_of s i list) s.voters

weighed-ratio : (s : QuorumSystem) (capacities b list : List ℕ) → AreCapacities capacities s.voters
    → weighed s b list * (ratio_of s capacities list).1 ≤ (ratio_of s capacities list).0 * sum_below (λ i. get_or b i 0 * get_or capacities i 0) s.voters
weighed-ratio s capacities b list are =
    let r = ratio_of s capacities list in
    sum_below-cross s.voters r.0 r.1 (λ i. get_or b i 0) (λ i. count_of s i list) (λ i. get_or capacities i 0)
    (greatest_ratio-bound s.voters capacities (λ i. count_of s i list) are)

-- some voter has a weight, and each capacity is at least 1
pub capacity_total-some : (w : Weighted) → AreWeights w → 0 < capacity_total w
capacity_total-some w h =
    let all : sum_below (λ i. get_or w.voter_weights i 0) w.system.voters ≡ voter_total w =
    subst (λ n. sum_below (λ i. get_or w.voter_weights i 0) n ≡ voter_total w) h.voters (sum_below-list (λ x. x) w.voter_weights) in
    let more = sum_below-le w.system.voters (λ i. get_or w.voter_weights i 0) (λ i. get_or w.voter_weights i 0 * get_or w.capacities i 0)
    (λ i lt. at_least (get_or w.voter_weights i 0) (get_or w.capacities i 0) (capacity-some w.capacities w.system.voters h.capacities i lt)) in
    omega (arith, all, more, h.some_voter)
  where
    at_least : (b c : ℕ) → 0 < c → b ≤ b * c
    at_least b c some = let scaled : b * 1 ≤ b * c = mul-le-mul_left b some in omega (arith, scaled)

-- n * t ≤ x, x * v ≤ u * s and p * s = q * t * d give n * p * v ≤ u * q * d
mul-le_balanced : (n t x p q s d u v : ℕ) → 0 < s → n * t ≤ x → x * v ≤ u * s → p * s ≡ q * t * d → n * p * v ≤ u * q * d
mul-le_balanced n t x p q s d u v some low high equal =
    let one : n * t * (v * q * d) ≤ x * (v * q * d) = mul-le-mul_right (v * q * d) low in
    let two : x * v * (q * d) ≤ u * s * (q * d) = mul-le-mul_right (q * d) high in
    let same : n * v * (p * s) ≡ n * v * (q * t * d) = ap (λ y. n * v * y) equal in
    le_of_mul-le-mul_right {k = s} (omega (arith, one, two, same)) some

-- the same for a voter of this count and capacity, if u / v is their quotient
mul-le_reached : (n p q d u v count c : ℕ) → 0 < v → n * p * v ≤ u * q * d → count * v ≡ u * c → n * p * c ≤ count * q * d
mul-le_reached n p q d u v count c some low equal =
    let one : n * p * v * c ≤ u * q * d * c = mul-le-mul_right c low in
    let same : count * v * (q * d) ≡ u * c * (q * d) = ap (λ y. y * (q * d)) equal in
    le_of_mul-le-mul_right {k = v} (omega (arith, one, same)) some

-- weights whose loads meet are optimal
pub IsOptimal-certificate : (w : Weighted) → IsCertificate w → IsOptimal w
IsOptimal-certificate w h list small =
    let s = w.system in
    let r = ratio_of s w.capacities list in
    let cycle = cycle_ratio w in
    let low = Bears-list s list h.coterie small (λ i. get_or w.voter_weights i 0) (lightest_quorum w) (λ j lt. least_of-le (weight_within w.voter_weights) s.quorums j [] lt) in
    let high = weighed-ratio s w.capacities w.voter_weights list h.capacities in
    let met : length list * cycle.0 * r.1 ≤ r.0 * cycle.1 * cycle_len w =
    mul-le_balanced (length list) (lightest_quorum w) (weighed s w.voter_weights list) cycle.0 cycle.1 (capacity_total w) (cycle_len w) r.0 r.1 (capacity_total-some w (AreWeights-certificate w h)) low high h.balanced in
    let found = greatest_ratio-reached s.voters w.capacities (λ i. count_of s i list) h.capacities h.coterie.some_voter in (
      found.0,
      found.1,
      mul-le_reached (length list) cycle.0 cycle.1 (cycle_len w) r.0 r.1 (count_of s found.0 list) (get_or w.capacities found.0 0)
          (greatest_ratio-some s.voters w.capacities (λ i. count_of s i list) h.capacities) met found.2,
    )

-- n * p * c ≤ count * q * d and count * v ≤ u * c give n * p * v ≤ u * (q * d)
mul-le_bound : (n p q d u v count c : ℕ) → 0 < c → n * p * c ≤ count * q * d → count * v ≤ u * c → n * p * v ≤ u * (q * d)
mul-le_bound n p q d u v count c some low high =
    let one : n * p * c * v ≤ count * q * d * v = mul-le-mul_right v low in
    let two : count * v * (q * d) ≤ u * c * (q * d) = mul-le-mul_right (q * d) high in
    le_of_mul-le-mul_right {k = c} (omega (arith, one, two)) some

-- no list has, for its length, a smaller ratio than the cycle of optimal weights
pub IsOptimal-ratio_of : (w : Weighted) → AreCapacities w.capacities w.system.voters → IsOptimal w
    → (list : List ℕ) → All (λ j. j < length w.system.quorums) list
    → length list * (cycle_ratio w).0 * (ratio_of w.system w.capacities list).1 ≤ (ratio_of w.system w.capacities list).0 * ((cycle_ratio w).1 * cycle_len w)
IsOptimal-ratio_of w are optimal list small =
    let s = w.system in
    let r = ratio_of s w.capacities list in
    let found = optimal list small in
    mul-le_bound (length list) (cycle_ratio w).0 (cycle_ratio w).1 (cycle_len w) r.0 r.1 (count_of s found.0 list) (get_or w.capacities found.0 0)
    (capacity-some w.capacities s.voters are found.0 found.1) found.2
    (greatest_ratio-bound s.voters w.capacities (λ i. count_of s i list) are found.0 found.1)
