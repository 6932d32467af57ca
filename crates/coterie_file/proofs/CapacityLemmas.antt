-- Lemmas on capacities and their faults.
use Rattle.std.proofs.Common.{◌≡◌, ℕ, ◌+◌, true, not, List, [], ◌∷◌, ◌++◌, length, get_or, sym, refl, ap, ◌∙◌, inl, inr, arith, None, subst}
use Rattle.std.specs.List.{position}
use Rattle.std.proofs.lemmas.Bool.{eq-eqb, ne_eqb, leb-true, le-leb, not-false, not_from_true, cases_eq}
use Rattle.std.proofs.lemmas.List.FromFn.{length-map-range_with_len, get_or-map-range_with_len, map-range_with_len_more}
use Rattle.quorum_set.specs.Capacities.{IsCapacity, AreCapacities, unit_capacities}
use Rattle.coterie_file.specs.Capacities.{is_capacity, capacities_fault}
use Rattle.coterie_file.specs.declared.fault.FileFault.TheVariants.{BadCapacity}
use Rattle.quorum_set.proofs.FaultLaws.{position-nil}
use Rattle.numbers.proofs.Options.{and-true, option_map-None, position-None}

pub IsCapacity-from_test : (c : ℕ) → is_capacity c ≡ true → IsCapacity c
IsCapacity-from_test c e =
    let parts = and-true _ _ e in
    (leb-true 1 c parts.0, leb-true c 1000 parts.1)

pub is_capacity-from_IsCapacity : (c : ℕ) → IsCapacity c → is_capacity c ≡ true
is_capacity-from_IsCapacity c h = rw (le-leb 1 c h.0, le-leb c 1000 h.1) refl

-- numbers without a fault are capacities
pub capacities_by_test : (n : ℕ) (capacities : List ℕ) → length capacities ≡ n → position (λ c. not (is_capacity c)) capacities ≡ None → AreCapacities capacities n
capacities_by_test n capacities count e = record {
  one_each = count;
  in_range = λ k d lt. IsCapacity-from_test (get_or capacities k d) (not-false _ (position-None (λ c. not (is_capacity c)) capacities e k d lt));
}

pub AreCapacities-from_no_fault : (n : ℕ) (capacities : List ℕ) → capacities_fault n capacities ≡ None → AreCapacities capacities n
AreCapacities-from_no_fault n capacities e = elim (cases_eq (length capacities) n) as (λ _. AreCapacities capacities n) [
  | inl same ↦ capacities_by_test n capacities same (option_map-None BadCapacity _ (rw (eq-eqb (length capacities) n same) at e))
  | inr other ↦ let fault = rw (ne_eqb (length capacities) n other) at e in cc
]

pub capacities_fault-none : (n : ℕ) (capacities : List ℕ) → AreCapacities capacities n → capacities_fault n capacities ≡ None
capacities_fault-none n capacities h =
    let good : position (λ c. not (is_capacity c)) capacities ≡ None = position-nil (λ c. not (is_capacity c)) capacities
    (λ k d lt. not_from_true _ (is_capacity-from_IsCapacity (get_or capacities k d) (h.in_range k d lt))) in
    rw (eq-eqb (length capacities) n h.one_each, good) refl

-- capacity 1 for each voter
abbrev one : ℕ → ℕ
one i = 1

length_unit_capacities : (n : ℕ) → length (unit_capacities n) ≡ n
length_unit_capacities n = length-map-range_with_len one 0 n

pub one_more_unit : (n : ℕ) (xs ys : List ℕ) → xs ≡ unit_capacities n → ys ≡ xs ++ 1 ∷ [] → ys ≡ unit_capacities (n + 1)
one_more_unit n xs ys e more = more ∙ ap (λ zs. zs ++ 1 ∷ []) e ∙ sym (map-range_with_len_more one 0 n n (omega arith))

pub units_so_far : (n : ℕ) (xs : List ℕ) → xs ≡ unit_capacities n → length xs ≡ n
units_so_far n xs e = ap length e ∙ length_unit_capacities n

pub AreCapacities-unit : (n : ℕ) → AreCapacities (unit_capacities n) n
AreCapacities-unit n = record {
  one_each = length_unit_capacities n;
  in_range = λ k d lt.
      let P : ℕ → Type 0 = IsCapacity in
      subst P (sym (get_or-map-range_with_len one 0 n k k d (omega (arith, length_unit_capacities n)) (omega arith))) (omega arith, omega arith);
}

pub AreCapacities-same : (n m : ℕ) (capacities other : List ℕ) → AreCapacities capacities n → capacities ≡ other → n ≡ m → AreCapacities other m
AreCapacities-same n m capacities other h same e = rw (← same, ← e) h
