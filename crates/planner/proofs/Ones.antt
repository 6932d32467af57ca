-- All weights 1 are a certificate exactly of a uniform coterie, if all voters have the same capacity.
use Rattle.std.proofs.Common.{◌≡◌, ℕ, ◌+◌, ◌*◌, ◌<◌, ◌≤◌, cond, List, [], ◌∷◌, length, get_or, zero, suc, sum, count_by, sym, ap, refl, subst, ◌∙◌, arith}
use Rattle.std.specs.List.{All}
use Rattle.std.proofs.lemmas.List.{get_or-replicate}
use Rattle.std.proofs.lemmas.List.Sums.{sum_by-cons}
use Rattle.std.proofs.lemmas.List.Folds.{sum_by-replicate}
use Rattle.std.proofs.lemmas.List.Elements.{All-head, All-tail}
use Rattle.std.proofs.Math.Nat.{mul_left_comm, mul_assoc, eq_of_mul-eq-mul_left, le_of_mul-le-mul_right}
use Rattle.numbers.specs.Sets.{has, Ascends}
use Rattle.quorum_set.specs.Capacities.{AreCapacities}
use Rattle.quorum_set.specs.Coteries.{QuorumSystem, IsCoterie}
use Rattle.certificate.specs.Loads.{weight_on, weight_within}
use Rattle.certificate.specs.Certificates.{IsCertificate, capacity_total, cycle_count, cycle_ratio, lightest_quorum}
use Rattle.certificate.proofs.RatioLemmas.{greatest_ratio-bound, greatest_ratio-reached, greatest_ratio-some}
use Rattle.numbers.proofs.CountLemmas.{least_of-le, least_of-level}
use Rattle.numbers.specs.Sums.{sum_below}
use Rattle.numbers.proofs.SetLemmas.{Ascends-all_below}
use Rattle.numbers.proofs.SumsBelow.{sum_below-level}
use Rattle.planner.specs.Uniform.{AreEqual, IsUniform, ones, all_ones, degree_of}
use Rattle.planner.proofs.Degrees.{sum_below-degrees, sum_below-level_from_most, sum_by-level, sum_by-level_from_least, sum_below-most, sum_by-least}

-- the weight on a voter's quorums is the voter's degree
pub weight_on-ones : (i : ℕ) (qs : List (List ℕ)) → weight_on i qs (ones (length qs)) ≡ count_by (λ q. has q i) qs
weight_on-ones i [] = refl
weight_on-ones i (q ∷ qs) = ap (λ t. cond (has q i) 1 0 + t) (weight_on-ones i qs) ∙ sym (sum_by-cons (λ q. cond (has q i) 1 0) q qs)

get_or-ones : (n i : ℕ) → i < n → get_or (ones n) i 0 ≡ 1
get_or-ones n i lt = get_or-replicate {A = ℕ} n i 1 0 lt

-- the weight of a quorum's members is its size
pub weight_within-ones : (n : ℕ) (q : List ℕ) → All (λ i. i < n) q → weight_within (ones n) q ≡ length q
weight_within-ones n [] h = refl
weight_within-ones n (x ∷ xs) h =
    omega (arith, sum_by-cons (λ i. get_or (ones n) i 0) x xs, get_or-ones n x (All-head (λ i. i < n) x xs h), weight_within-ones n xs (All-tail (λ i. i < n) x xs h))

-- the quorums ascend below the number of voters
Ascends-quorums : (s : QuorumSystem) → IsCoterie s → All (Ascends 0 s.voters) s.quorums
Ascends-quorums s h = λ j d lt. Ascends-all_below 0 64 s.voters _ (h.sets j d lt) (h.in_range j d lt)

-- the members of a quorum at a place weigh its size
weight_within-ones_at : (s : QuorumSystem) → IsCoterie s → (j : ℕ) (d : List ℕ) → j < length s.quorums → weight_within (ones s.voters) (get_or s.quorums j d) ≡ length (get_or s.quorums j d)
weight_within-ones_at s h j d lt = weight_within-ones s.voters (get_or s.quorums j d) (h.in_range j d lt)

sum-ones : (n : ℕ) → sum (ones n) ≡ n
sum-ones n = sum_by-replicate (λ x. x) n 1 ∙ mul_one n
  where
    mul_one : (n : ℕ) → n * 1 ≡ n
    mul_one n = omega arith

length-ones : (n : ℕ) → length (ones n) ≡ n
length-ones zero = refl
length-ones (suc n) = ap suc (length-ones n)

-- all capacities are c, at each place
get_or-equal : (capacities : List ℕ) (n : ℕ) → AreCapacities capacities n → (equal : AreEqual capacities) → (i : ℕ) → i < n → get_or capacities i 0 ≡ equal.0
get_or-equal capacities n are equal i lt = equal.1 i 0 (omega (arith, are.one_each))

-- weights 1 and capacities c total n times c
capacity_total-ones : (s : QuorumSystem) (capacities : List ℕ) → AreCapacities capacities s.voters → (equal : AreEqual capacities) → capacity_total (all_ones s capacities) ≡ s.voters * equal.0
capacity_total-ones s capacities are equal =
    sum_below-level s.voters equal.0 (λ i. get_or (ones s.voters) i 0 * get_or capacities i 0) (λ i lt. times_one _ _ _ (get_or-ones s.voters i lt) (get_or-equal capacities s.voters are equal i lt))
  where
    times_one : (a b c : ℕ) → a ≡ 1 → b ≡ c → a * b ≡ c
    times_one a b c ea eb = rw ea (omega (arith, eb))

-- the count of the voter that reaches the ratio p / q, for capacities that are all c
reached-degree : (s : QuorumSystem) (capacities : List ℕ) → IsCoterie s → AreCapacities capacities s.voters → (equal : AreEqual capacities) → (i : ℕ) × (i < s.voters)
    × (degree_of s i * (cycle_ratio (all_ones s capacities)).1 ≡ (cycle_ratio (all_ones s capacities)).0 * equal.0)
reached-degree s capacities h are equal =
    let r : ℕ × ℕ = cycle_ratio (all_ones s capacities) in
    let at = greatest_ratio-reached s.voters capacities (cycle_count (all_ones s capacities)) are h.some_voter in
    (at.0, at.1, ap (λ d. d * r.1) (sym (weight_on-ones at.0 s.quorums)) ∙ at.2 ∙ ap (λ c. r.0 * c) (get_or-equal capacities s.voters are equal at.0 at.1))

pub IsCertificate-uniform : (s : QuorumSystem) (capacities : List ℕ) → IsCoterie s → AreCapacities capacities s.voters → AreEqual capacities → IsUniform s → IsCertificate (all_ones s capacities)
IsCertificate-uniform s capacities h are equal u =
    let n : ℕ = s.voters in
    let q : ℕ = length s.quorums in
    let some_voter = h.some_voter in
    let few_voters = h.few_voters in
    let some_quorum = h.some_quorum in
    let few_quorums = h.few_quorums in
    let cycle = sum-ones q in
    let total = sum-ones n in
    let at = reached-degree s capacities h are equal in
    let most = ap (λ d. d * (cycle_ratio (all_ones s capacities)).1) (sym (u.voters at.0 at.1)) ∙ at.2 in
    let least : lightest_quorum (all_ones s capacities) ≡ u.size = least_of-level (weight_within (ones n)) s.quorums u.size some_quorum
    (λ j d lt. weight_within-ones_at s h j d lt ∙ u.quorums j d lt) in
    let degrees = sum_below-degrees n s.quorums (Ascends-quorums s h) in
    let level : sum_below (degree_of s) n ≡ n * u.degree = sum_below-level n u.degree (degree_of s) u.voters in
    let sizes = sum_by-level u.size s.quorums u.quorums in
    let twice : n * u.degree ≡ q * u.size = sym level ∙ degrees ∙ sizes in
    record {
      coterie = h;
      capacities = are;
      quorums = length-ones q;
      voters = length-ones n;
      some_quorum = omega arith;
      few_quorums = omega arith;
      some_voter = omega arith;
      few_voters = omega arith;
      balanced = meeting _ _ _ _ _ u.degree u.size n q equal.0 (capacity_total-ones s capacities are equal) least cycle most twice;
    }
  where
    order : (q size r : ℕ) → q * size * r ≡ r * size * q
    order q size r = grind arith

    meeting : (p r total t d degree size n q c : ℕ) → total ≡ n * c → t ≡ size → d ≡ q → degree * r ≡ p * c → n * degree ≡ q * size → p * total ≡ r * t * d
    meeting p r total t d degree size n q c eb et ed most twice =
        rw (eb, et, ed) (mul_left_comm p n c ∙ ap (λ x. n * x) (sym most) ∙ sym (mul_assoc n degree r) ∙ ap (λ x. x * r) twice ∙ order q size r)

pub IsUniform-certificate : (s : QuorumSystem) (capacities : List ℕ) → IsCoterie s → AreCapacities capacities s.voters → AreEqual capacities → IsCertificate (all_ones s capacities) → IsUniform s
IsUniform-certificate s capacities h are equal c =
    let n : ℕ = s.voters in
    let q : ℕ = length s.quorums in
    let r : ℕ × ℕ = cycle_ratio (all_ones s capacities) in
    let at = reached-degree s capacities h are equal in
    let m : ℕ = degree_of s at.0 in
    let t : ℕ = lightest_quorum (all_ones s capacities) in
    let over : 0 < r.1 = greatest_ratio-some n capacities (cycle_count (all_ones s capacities)) are in
    let degrees = sum_below-degrees n s.quorums (Ascends-quorums s h) in
    let balanced : m * n ≡ t * q = scaled r.0 r.1 _ t _ m n q equal.0 over at.2 (capacity_total-ones s capacities are equal) (sum-ones q) c.balanced in
    let most : (i : ℕ) → i < n → degree_of s i ≤ m = λ i lt. le_of_mul-le-mul_right {k = r.1}
    (subst (λ x. x * r.1 ≤ m * r.1) (weight_on-ones i s.quorums) (subst (λ x. cycle_count (all_ones s capacities) i * r.1 ≤ x)
    (ap (λ x. r.0 * x) (get_or-equal capacities n are equal i lt) ∙ sym at.2) (greatest_ratio-bound n capacities (cycle_count (all_ones s capacities)) are i lt))) over in
    let least : All (λ r. t ≤ length r) s.quorums = λ j d lt. subst (λ x. t ≤ x) (weight_within-ones_at s h j d lt) (least_of-le (weight_within (ones n)) s.quorums j d lt) in
    let low = sum_by-least t s.quorums least in
    let high = sum_below-most n m (degree_of s) most in
    record {
      size = t;
      degree = m;
      quorums = sum_by-level_from_least t s.quorums least (omega (arith, degrees, high, balanced));
      voters = sum_below-level_from_most n m (degree_of s) most (omega (arith, degrees, low, balanced));
    }
  where
    left : (r m n : ℕ) → r * (m * n) ≡ m * r * n
    left r m n = grind arith

    right : (p c n : ℕ) → p * c * n ≡ p * (n * c)
    right p c n = grind arith

    scaled : (p r total t d m n q c : ℕ) → 0 < r → m * r ≡ p * c → total ≡ n * c → d ≡ q → p * total ≡ r * t * d → m * n ≡ t * q
    scaled p r total t d m n q c over at eb ed balanced =
        eq_of_mul-eq-mul_left r over (m * n) (t * q) (left r m n ∙ ap (λ x. x * n) at ∙ right p c n ∙ ap (λ x. p * x) (sym eb) ∙ balanced ∙ ap (λ x. r * t * x) ed ∙ mul_assoc r t q)
