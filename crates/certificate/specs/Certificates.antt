-- Certificates: weights of quorums and of voters that show that a plan is optimal.
use Rattle.std.specs.Prelude.{◌≡◌, ℕ, ◌*◌, ◌<◌, ◌≤◌, not, ◌&&◌, ◌||◌, ◌==◌, nat_lt, if◌then◌else◌, List, length, slice_index, sum, Option, None, Some, Result, Ok, Err}
use Rattle.std.specs.List.{All}
use Rattle.quorum_set.specs.Capacities.{AreCapacities, are_unit}
use Rattle.quorum_set.specs.Coteries.{QuorumSystem, IsCoterie}
use Rattle.quorum_set.specs.Counts.{count_of, busiest_of}
use Rattle.numbers.specs.Bounds.{max_cycle}
use Rattle.numbers.specs.Counts.{greatest_below, least_of}
use Rattle.numbers.specs.Sums.{sum_below}
use Rattle.divisor.specs.Gcd.{lowest_terms}
use Rattle.certificate.specs.Loads.{weight_on, weight_within}
use Rattle.certificate.specs.Ratios.{greatest_ratio}
use Rattle.certificate.specs.declared.sums.Sums.{Sums}
use Rattle.certificate.specs.declared.fault.PlanFault.{PlanFault}
use Rattle.certificate.specs.declared.fault.PlanFault.TheVariants.{WrongLength, TooLarge, Empty, NotOptimal, NotOptimalRatio, OutOfMemory}

-- a coterie, a capacity for each voter, a weight for each quorum, and a weight for each voter
pub record Weighted : Type 0 where
  pub system : QuorumSystem
  pub capacities : List ℕ
  pub quorum_weights : List ℕ
  pub voter_weights : List ℕ

-- a coterie with these capacities and these weights
abbrev pub with_weights : QuorumSystem → List ℕ → List ℕ → List ℕ → Weighted
with_weights system capacities quorum_weights voter_weights =
    record { system = system; capacities = capacities; quorum_weights = quorum_weights; voter_weights = voter_weights }

-- the length of a cycle: the sum of the quorums' weights
abbrev pub cycle_len : Weighted → ℕ
cycle_len w = sum w.quorum_weights

-- the sum of the voters' weights
abbrev pub voter_total : Weighted → ℕ
voter_total w = sum w.voter_weights

-- the sum of the voters' weights, each times the voter's capacity
abbrev pub capacity_total : Weighted → ℕ
capacity_total w = sum_below (λ i. slice_index w.voter_weights i * slice_index w.capacities i) w.system.voters

-- how often a cycle uses a voter: the sum of the weights of the quorums with that voter
abbrev pub cycle_count : Weighted → ℕ → ℕ
cycle_count w i = weight_on i w.system.quorums w.quorum_weights

-- how often a cycle uses its busiest voter
abbrev pub busiest_count : Weighted → ℕ
busiest_count w = greatest_below w.system.voters (cycle_count w)

-- the ratio of a cycle: the greatest count of a voter, divided by its capacity, in lowest terms
abbrev pub cycle_ratio : Weighted → ℕ × ℕ
cycle_ratio w = greatest_ratio w.system.voters w.capacities (cycle_count w)

-- the smallest sum, over the quorums, of the weights of a quorum's members
abbrev pub lightest_quorum : Weighted → ℕ
lightest_quorum w = least_of (weight_within w.voter_weights) w.system.quorums

-- a coterie with a capacity for each voter, a weight for each quorum and one for each voter; neither
-- sum of weights is 0 or above 1,000,000
pub record AreWeights (w : Weighted) : Type 0 where
  pub coterie : IsCoterie w.system
  pub capacities : AreCapacities w.capacities w.system.voters
  pub quorums : length w.quorum_weights ≡ length w.system.quorums
  pub voters : length w.voter_weights ≡ w.system.voters
  pub some_quorum : 0 < cycle_len w
  pub few_quorums : cycle_len w ≤ max_cycle
  pub some_voter : 0 < voter_total w
  pub few_voters : voter_total w ≤ max_cycle

-- the sums of these weights, which are small
pub record AreSums (w : Weighted) (sums : Sums) : Type 0 where
  pub cycle_len : sums.cycle_len ≡ cycle_len w
  pub busiest : sums.busiest ≡ busiest_count w
  pub ratio : sums.ratio ≡ cycle_ratio w
  pub capacity_total : sums.capacity_total ≡ capacity_total w
  pub lightest_quorum : sums.lightest_quorum ≡ lightest_quorum w
  pub small_total : sums.capacity_total ≤ 1000000000
  pub small_quorum : sums.lightest_quorum ≤ 64000000

-- The weights show that no cycle has a smaller ratio for its length. In any list of quorums, the
-- voters' counts, each times the voter's weight, add up to at least the lightest quorum's weight for
-- each entry. This cycle reaches that bound. It is the duality of linear programs by which Naor and
-- Wool (SIAM J. Comput. 27(2), 1998) determine the load, in whole numbers and with capacities.
pub record IsCertificate (w : Weighted) : Type 0 where
  pub coterie : IsCoterie w.system
  pub capacities : AreCapacities w.capacities w.system.voters
  pub quorums : length w.quorum_weights ≡ length w.system.quorums
  pub voters : length w.voter_weights ≡ w.system.voters
  pub some_quorum : 0 < cycle_len w
  pub few_quorums : cycle_len w ≤ max_cycle
  pub some_voter : 0 < voter_total w
  pub few_voters : voter_total w ≤ max_cycle
  pub balanced : (cycle_ratio w).0 * capacity_total w ≡ (cycle_ratio w).1 * lightest_quorum w * cycle_len w

-- each list of quorum numbers uses some voter at least as often, for the list's length and the
-- voter's capacity, as the ratio of the cycle says
abbrev pub IsOptimal : Weighted → Type 0
IsOptimal w =
    (list : List ℕ) → All (λ j. j < length w.system.quorums) list
    → (i : ℕ) × (i < w.system.voters)
    × (length list * (cycle_ratio w).0 * slice_index w.capacities i
    ≤ count_of w.system i list * (cycle_ratio w).1 * cycle_len w)

-- the load, in lowest terms: the ratio of a cycle, divided by the cycle's length
abbrev pub load_of : Weighted → ℕ × ℕ
load_of w = lowest_terms (cycle_ratio w).0 ((cycle_ratio w).1 * cycle_len w)

-- The same for capacities that are all 1

-- the weights show that no cycle is more even
pub record IsUnitCertificate (w : Weighted) : Type 0 where
  pub coterie : IsCoterie w.system
  pub quorums : length w.quorum_weights ≡ length w.system.quorums
  pub voters : length w.voter_weights ≡ w.system.voters
  pub some_quorum : 0 < cycle_len w
  pub few_quorums : cycle_len w ≤ max_cycle
  pub some_voter : 0 < voter_total w
  pub few_voters : voter_total w ≤ max_cycle
  pub balanced : busiest_count w * voter_total w ≡ lightest_quorum w * cycle_len w

-- no list of quorum numbers has, for its length, a smaller busiest count than the cycle
abbrev pub IsUnitOptimal : Weighted → Type 0
IsUnitOptimal w =
    (list : List ℕ) → All (λ j. j < length w.system.quorums) list
    → length list * busiest_count w ≤ busiest_of w.system list * cycle_len w

-- the load, in lowest terms: the share of a cycle's quorums that have the busiest voter
abbrev pub unit_load : Weighted → ℕ × ℕ
unit_load w = lowest_terms (busiest_count w) (cycle_len w)

-- Faults

-- the fault of weights that are no certificate, with the numbers that do not balance
abbrev pub balance_fault : Weighted → PlanFault
balance_fault w =
    if are_unit w.capacities
    then NotOptimal (busiest_count w) (voter_total w) (lightest_quorum w) (cycle_len w)
    else NotOptimalRatio (cycle_ratio w).0 (cycle_ratio w).1 (capacity_total w) (lightest_quorum w) (cycle_len w)

-- the first fault of the numbers of weights and of their sums, or else `rest`
abbrev pub sizes_fault_or : Option PlanFault → Weighted → Option PlanFault
sizes_fault_or rest w =
    if not ((length w.quorum_weights == length w.system.quorums) && (length w.voter_weights == w.system.voters))
    then Some WrongLength else
    if nat_lt max_cycle (cycle_len w) || nat_lt max_cycle (voter_total w) then Some TooLarge else
    if (cycle_len w == 0) || (voter_total w == 0) then Some Empty else rest

-- the first fault of the weights, whatever they show
abbrev pub sizes_fault : Weighted → Option PlanFault
sizes_fault w = sizes_fault_or None w

-- the first fault of the weights as a certificate
abbrev pub weights_fault : Weighted → Option PlanFault
weights_fault w =
    sizes_fault_or
    (if not ((cycle_ratio w).0 * capacity_total w == (cycle_ratio w).1 * lightest_quorum w * cycle_len w)
    then Some (balance_fault w) else None)
    w

-- the sums of the weights, if this first fault is none; else the fault
abbrev pub AnswersSums : Option PlanFault → Weighted → Result Sums PlanFault → Type 0
AnswersSums fault w (Ok sums) = (fault ≡ None) × AreWeights w × AreSums w sums
AnswersSums fault w (Err e) = fault ≡ Some e

-- the weights or out of memory, if this first fault is none; else the fault
abbrev pub AnswersUnless : Option PlanFault → Weighted → Result Weighted PlanFault → Type 0
AnswersUnless fault w (Ok made) = (fault ≡ None) × (made ≡ w)
AnswersUnless fault w (Err OutOfMemory) = fault ≡ None
AnswersUnless fault w (Err e) = fault ≡ Some e

-- the result for weights, whatever they show
abbrev pub AnswersWeights : Weighted → Result Weighted PlanFault → Type 0
AnswersWeights w result = AnswersUnless (sizes_fault w) w result

-- the result for weights as a certificate
abbrev pub AnswersPlan : Weighted → Result Weighted PlanFault → Type 0
AnswersPlan w result = AnswersUnless (weights_fault w) w result
