-- Weights have no fault if and only if they are a certificate.
use Rattle.std.proofs.Common.{◌≡◌, ◌↔◌, ◌*◌, ◌∙◌, Bool, true, false, cond, eqb, not, refl, sym, ap, subst, arith, Option, None, Some}
use Rattle.std.proofs.lemmas.Bool.{and_parts, eqb-true, eqb-false, eq-eqb, ne_eqb, ltb-false, le-ltb, not-false, or_parts, or_from}
use Rattle.quorum_set.specs.Capacities.{AreCapacities, are_unit}
use Rattle.quorum_set.specs.Coteries.{IsCoterie}
use Rattle.certificate.specs.Certificates.{Weighted, AreSums, AreWeights, IsCertificate, balance_fault, capacity_total, cycle_len, cycle_ratio, lightest_quorum, sizes_fault, sizes_fault_or, voter_total, weights_fault}
use Rattle.certificate.specs.declared.fault.PlanFault.{PlanFault}
use Rattle.certificate.specs.declared.fault.PlanFault.TheVariants.{WrongLength, TooLarge, Empty, NotOptimal}
use Rattle.certificate.specs.declared.sums.Sums.{Sums}
use Rattle.certificate.proofs.RatioLemmas.{AreWeights-certificate, IsCertificate-balanced}
use Rattle.certificate.proofs.UnitCapacities.{capacity_total-are_unit}

-- a chain of tests answers nothing only where each test fails
pub cond_Some-None : {F : Type 0} (b : Bool) (e : F) (rest : Option F) → cond b (Some e) rest ≡ None → (b ≡ false) × (rest ≡ None)
cond_Some-None true e rest h = cc
cond_Some-None false e rest h = (refl, h)

pub IsCertificate-weights_fault : (w : Weighted) → IsCoterie w.system → AreCapacities w.capacities w.system.voters
    → weights_fault w ≡ None → IsCertificate w
IsCertificate-weights_fault w coterie capacities none =
    let one = cond_Some-None _ _ _ none in
    let two = cond_Some-None _ _ _ one.1 in
    let three = cond_Some-None _ _ _ two.1 in
    let four = cond_Some-None _ _ _ three.1 in
    let lengths = and_parts _ _ (not-false _ one.0) in
    let small = or_parts _ _ two.0 in
    let some = or_parts _ _ three.0 in
    let some_quorum = eqb-false (cycle_len w) 0 some.0 in
    let some_voter = eqb-false (voter_total w) 0 some.1 in
    record {
      coterie = coterie;
      capacities = capacities;
      quorums = eqb-true _ _ lengths.0;
      voters = eqb-true _ _ lengths.1;
      some_quorum = omega arith;
      few_quorums = ltb-false 1000000 (cycle_len w) small.0;
      some_voter = omega arith;
      few_voters = ltb-false 1000000 (voter_total w) small.1;
      balanced = eqb-true _ _ (not-false _ four.0);
    }

-- weights have no fault of their sizes
pub sizes_fault-AreWeights : (w : Weighted) → AreWeights w → sizes_fault w ≡ None
sizes_fault-AreWeights w h =
    none_of_three _ _ _ WrongLength TooLarge Empty
    (rw (eq-eqb _ _ h.quorums, eq-eqb _ _ h.voters) refl)
    (or_from _ _ (le-ltb 1000000 (cycle_len w) h.few_quorums) (le-ltb 1000000 (voter_total w) h.few_voters))
    (or_from _ _ (ne_eqb (cycle_len w) 0 (λ e. omega (arith, h.some_quorum))) (ne_eqb (voter_total w) 0 (λ e. omega (arith, h.some_voter))))
  where
    none_of_three : {F : Type 0} (a b c : Bool) (x y z : F) → a ≡ false → b ≡ false → c ≡ false
        → cond a (Some x) (cond b (Some y) (cond c (Some z) None)) ≡ None
    none_of_three a b c x y z ea eb ec = rw (ea, eb, ec) refl

-- Weights that are checked by their sums

-- if the sizes have no fault, the first fault is the rest
sizes_fault_or-rest : (w : Weighted) (rest : Option PlanFault) → sizes_fault w ≡ None → sizes_fault_or rest w ≡ rest
sizes_fault_or-rest w rest none =
    rest_of_three _ _ _ WrongLength TooLarge Empty rest none
  where
    rest_of_three : {F : Type 0} (a b c : Bool) (x y z : F) (rest : Option F) → cond a (Some x) (cond b (Some y) (cond c (Some z) None)) ≡ None
        → cond a (Some x) (cond b (Some y) (cond c (Some z) rest)) ≡ rest
    rest_of_three a b c x y z rest none =
        let one = cond_Some-None a x (cond b (Some y) (cond c (Some z) None)) none in
        let two = cond_Some-None b y (cond c (Some z) None) one.1 in
        let three = cond_Some-None c z None two.1 in
        rw (one.0, two.0, three.0) refl

pub weights_fault-IsCertificate : (w : Weighted) → IsCertificate w → weights_fault w ≡ None
weights_fault-IsCertificate w h =
    sizes_fault_or-rest w _ (sizes_fault-AreWeights w (AreWeights-certificate w h))
    ∙ ap (λ e. cond (not e) (Some (balance_fault w)) None) (eq-eqb _ _ h.balanced)

module _ (w : Weighted) (sums : Sums) (h : AreWeights w) (are : AreSums w sums) where
  balance-same : eqb (sums.ratio.0 * sums.capacity_total) (sums.ratio.1 * sums.cycle_len * sums.lightest_quorum)
      ≡ eqb ((cycle_ratio w).0 * capacity_total w) ((cycle_ratio w).1 * lightest_quorum w * cycle_len w)
  balance-same =
      let turned : sums.ratio.1 * sums.cycle_len * sums.lightest_quorum ≡ sums.ratio.1 * sums.lightest_quorum * sums.cycle_len = omega arith in
      ap (eqb (sums.ratio.0 * sums.capacity_total)) turned ∙ rw (are.ratio, are.capacity_total, are.lightest_quorum, are.cycle_len) refl

  -- the fault of weights that are not balanced
  pub weights_fault-unbalanced : (b : Bool) → b ≡ eqb (sums.ratio.0 * sums.capacity_total) (sums.ratio.1 * sums.cycle_len * sums.lightest_quorum)
      → b ≡ false → sizes_fault w ≡ None → weights_fault w ≡ Some (balance_fault w)
  weights_fault-unbalanced b is fails none =
      let unequal : eqb ((cycle_ratio w).0 * capacity_total w) ((cycle_ratio w).1 * lightest_quorum w * cycle_len w) ≡ false = sym balance-same ∙ sym is ∙ fails in
      sizes_fault_or-rest w _ none ∙ ap (λ e. cond (not e) (Some (balance_fault w)) None) unequal

  -- the sums are balanced if and only if the weights are a certificate
  pub balanced-IsCertificate : (b : Bool) → b ≡ eqb (sums.ratio.0 * sums.capacity_total) (sums.ratio.1 * sums.cycle_len * sums.lightest_quorum)
      → (b ≡ true) ↔ IsCertificate w
  balanced-IsCertificate b is = (
    λ yes. IsCertificate-balanced w h (eqb-true _ _ (sym balance-same ∙ sym is ∙ yes)),
    λ certificate. is ∙ balance-same ∙ eq-eqb _ _ certificate.balanced,
  )

  -- the fault that the sums show, if all capacities are 1
  pub balance_fault-unit : are_unit w.capacities ≡ true → NotOptimal sums.busiest sums.capacity_total sums.lightest_quorum sums.cycle_len ≡ balance_fault w
  balance_fault-unit unit =
      let total : sums.capacity_total ≡ voter_total w = are.capacity_total ∙ capacity_total-are_unit w h.capacities.one_each unit h.voters in
      rw (unit, are.busiest, total, are.lightest_quorum, are.cycle_len) refl
