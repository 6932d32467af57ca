-- One voter is down.
use Rattle.std.proofs.Common.{◌≡◌, ℕ, ◌+◌, ◌*◌, ◌<◌, ◌≤◌, Bool, true, false, not, ◌||◌, cond, List, [], ◌∷◌, length, sum, sym, refl, ap, subst, ◌∙◌, arith}
use Rattle.std.proofs.lemmas.List.Sums.{sum_by-cons}
use Rattle.std.proofs.Math.Nat.{mul-le-mul_right}
use Rattle.divisor.proofs.GcdLemmas.{lowest_terms-exact, lowest_terms-some}
use Rattle.numbers.specs.Sets.{has}
use Rattle.numbers.proofs.CountLemmas.{greatest_below-le, greatest_below-reached}
use Rattle.quorum_set.specs.Capacities.{unit_capacities}
use Rattle.certificate.specs.Bounds.{IsRival}
use Rattle.certificate.specs.Certificates.{Weighted, IsCertificate, busiest_count, cycle_count, cycle_len, load_of, unit_load}
use Rattle.certificate.specs.Loads.{weight_on}
use Rattle.certificate.specs.Ratios.{IsAtMost}
use Rattle.certificate.proofs.BoundLemmas.{IsBounded-weights, bound_of-certificate}
use Rattle.certificate.proofs.RatioLemmas.{AreWeights-certificate, IsAtMost-trans}
use Rattle.certificate.proofs.UnitCapacities.{are_unit-unit_capacities, length-unit_capacities, load_of-are_unit}
use Rattle.losses.specs.Losses.{each_left, is_left, tickets_left, tickets_lost}

-- a quorum is lost if and only if it has the voter
lost_step : (h : Bool) (a left on rest : ℕ) → left + on ≡ rest → cond (not (h || false)) a 0 + left + (cond h a 0 + on) ≡ a + rest
lost_step true a left on rest e = omega (arith, e)
lost_step false a left on rest e = omega (arith, e)

left_and_lost : (i : ℕ) (qs : List (List ℕ)) (ws : List ℕ) → length ws ≡ length qs → sum (each_left (i ∷ []) qs ws) + weight_on i qs ws ≡ sum ws
left_and_lost i [] [] long = refl
left_and_lost i [] (a ∷ ws) long = absurd (omega arith)
left_and_lost i (q ∷ qs) [] long = absurd (omega arith)
left_and_lost i (q ∷ qs) (a ∷ ws) long =
    let kept = each_left (i ∷ []) qs ws in
    let first = cond (is_left (i ∷ []) q) a 0 in
    let rest = left_and_lost i qs ws (omega arith) in
    omega (arith, lost_step (has q i) a (sum kept) (weight_on i qs ws) (sum ws) rest, sum_by-cons (λ y. y) first kept, sum_by-cons (λ y. y) a ws)

module _ (w : Weighted) (long : length w.quorum_weights ≡ length w.system.quorums) where
  pub tickets_left-one : (i : ℕ) → tickets_left (i ∷ []) w + cycle_count w i ≡ cycle_len w
  tickets_left-one i = left_and_lost i w.system.quorums w.quorum_weights long

  pub tickets_lost-one : (i : ℕ) → tickets_lost (i ∷ []) w ≡ cycle_count w i
  tickets_lost-one i = omega (arith, tickets_left-one i)

  pub tickets_lost-le : (i : ℕ) → i < w.system.voters → tickets_lost (i ∷ []) w ≤ busiest_count w
  tickets_lost-le i lt = omega (arith, tickets_lost-one i, greatest_below-le w.system.voters (cycle_count w) i lt)

  pub tickets_lost-reached : 0 < w.system.voters → (i : ℕ) × (i < w.system.voters) × (tickets_lost (i ∷ []) w ≡ busiest_count w)
  tickets_lost-reached some =
      let found = greatest_below-reached w.system.voters (cycle_count w) some in
      (found.0, found.1, omega (arith, tickets_lost-one found.0, found.2))

  -- capacities that are all 1
  module _ (unit : w.capacities ≡ unit_capacities w.system.voters) where
    load_of-unit : load_of w ≡ unit_load w
    load_of-unit = load_of-are_unit w (length-unit_capacities w.capacities w.system.voters unit) (are_unit-unit_capacities w.capacities w.system.voters unit)

    pub load_of-positive : 0 < cycle_len w → 0 < (load_of w).1
    load_of-positive some = subst (λ r. 0 < r.1) (sym load_of-unit) (lowest_terms-some (busiest_count w) (cycle_len w) some)

    -- the share of tickets that are lost is at most the load
    pub share_lost-le : (i : ℕ) → i < w.system.voters → IsAtMost (tickets_lost (i ∷ []) w, cycle_len w) (load_of w)
    share_lost-le i lt =
        let top = busiest_count w in
        let less : tickets_lost (i ∷ []) w * (unit_load w).1 ≤ top * (unit_load w).1 = mul-le-mul_right (unit_load w).1 (tickets_lost-le i lt) in
        let exact = lowest_terms-exact top (cycle_len w) in
        subst (IsAtMost (tickets_lost (i ∷ []) w, cycle_len w)) (sym load_of-unit) (omega (arith, less, exact))

    -- some voter's loss loses this share
    pub share_lost-reached : 0 < w.system.voters → (i : ℕ) × (i < w.system.voters) × IsAtMost (load_of w) (tickets_lost (i ∷ []) w, cycle_len w)
    share_lost-reached some =
        let found = tickets_lost-reached some in
        let exact = lowest_terms-exact (busiest_count w) (cycle_len w) in
        let same : tickets_lost (found.0 ∷ []) w * (unit_load w).1 ≡ busiest_count w * (unit_load w).1 = ap (λ x. x * (unit_load w).1) found.2 in
        (found.0, found.1, subst (λ r. IsAtMost r (tickets_lost (found.0 ∷ []) w, cycle_len w)) (sym load_of-unit) (omega (arith, exact, same)))

-- for other weights some voter's loss loses at least the load of a plan
pub share_lost-least : (w v : Weighted) → IsCertificate w → w.capacities ≡ unit_capacities w.system.voters → IsRival w v
    → (i : ℕ) × (i < w.system.voters) × IsAtMost (load_of w) (tickets_lost (i ∷ []) v, cycle_len v)
share_lost-least w v is unit rival =
    let are = AreWeights-certificate w is in
    let same : unit_capacities w.system.voters ≡ unit_capacities v.system.voters = ap (λ s. unit_capacities s.voters) (sym rival.system) in
    let voters : v.system.voters ≡ w.system.voters = ap (λ s. s.voters) rival.system in
    let ones : v.capacities ≡ unit_capacities v.system.voters = rival.capacities ∙ unit ∙ same in
    let some = load_of-positive v rival.quorums ones rival.some_quorum in
    let found = share_lost-reached v rival.quorums ones (omega (arith, voters, are.coterie.some_voter)) in
    let low : IsAtMost (load_of w) (load_of v) = subst (λ r. IsAtMost r (load_of v)) (sym (bound_of-certificate w is)) (IsBounded-weights w are v rival) in
    (found.0, omega (arith, found.1, voters), IsAtMost-trans (load_of w) (load_of v) (tickets_lost (found.0 ∷ []) v, cycle_len v) some low found.2)
