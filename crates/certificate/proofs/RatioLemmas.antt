-- Lemmas on ratios: the greatest of fractions, in lowest terms.
use Rattle.std.proofs.Common.{◌≡◌, ℕ, ◌+◌, ◌*◌, ◌<◌, ◌≤◌, ◌⊎◌, cond, List, length, get_or, set, zero, suc, sym, refl, ap, ap₂, subst, ◌∙◌, inl, inr, arith}
use Rattle.std.specs.Int.{IsGcd}
use Rattle.std.proofs.lemmas.Bool.{cases_eq, cases_lt, lt-ltb, le-ltb}
use Rattle.std.proofs.lemmas.Grind.{get_or-set_at}
use Rattle.std.proofs.lemmas.List.{get_or-set_other}
use Rattle.std.proofs.Math.Nat.{div-le_self, mul-le-mul_left, mul-le-mul_right, le_of_mul-le-mul_right}
use Rattle.divisor.specs.Gcd.{gcd_of, lowest_terms}
use Rattle.divisor.proofs.GcdLemmas.{lowest_terms-exact, lowest_terms-lowest, lowest_terms-same, lowest_terms-some}
use Rattle.quorum_set.specs.Capacities.{AreCapacities}
use Rattle.certificate.specs.Certificates.{Weighted, AreSums, AreWeights, IsCertificate, capacity_total, cycle_count, cycle_len, cycle_ratio, lightest_quorum, load_of}
use Rattle.certificate.specs.declared.sums.Sums.{Sums}
use Rattle.certificate.proofs.LoadLemmas.{weight_on-le}
use Rattle.certificate.specs.Loads.{weight_on}
use Rattle.certificate.specs.Ratios.{IsAtMost, greater_of, greatest_fraction, greatest_ratio}

pub IsAtMost-trans : (r s t : ℕ × ℕ) → 0 < s.1 → IsAtMost r s → IsAtMost s t → IsAtMost r t
IsAtMost-trans r s t some low high =
    let one : r.0 * s.1 * t.1 ≤ s.0 * r.1 * t.1 = mul-le-mul_right t.1 low in
    let two : s.0 * t.1 * r.1 ≤ t.0 * s.1 * r.1 = mul-le-mul_right r.1 high in
    le_of_mul-le-mul_right {k = s.1} (omega (arith, one, two)) some

-- The greatest of fractions

pub greater_of-cases : (r s : ℕ × ℕ) → ((greater_of r s ≡ s) × IsAtMost r s) ⊎ ((greater_of r s ≡ r) × IsAtMost s r)
greater_of-cases r s =
    elim (cases_lt (r.0 * s.1) (s.0 * r.1)) [
      | inl less ↦ inl (ap (λ b. cond b s r) (lt-ltb (r.0 * s.1) (s.0 * r.1) less), omega (arith, less))
      | inr more ↦ inr (ap (λ b. cond b s r) (le-ltb (r.0 * s.1) (s.0 * r.1) more), more)
    ]

module _ (f : ℕ → ℕ × ℕ) where
  -- what holds for 0/1 and for each fraction
  pub greatest_fraction-holds : (n : ℕ) (P : ℕ × ℕ → Type 0) → P (0, 1) → ((i : ℕ) → i < n → P (f i)) → P (greatest_fraction n f)
  greatest_fraction-holds zero P none each = none
  greatest_fraction-holds (suc n) P none each =
      elim (greater_of-cases (greatest_fraction n f) (f n)) [
        | inl last ↦ subst P (sym last.0) (each n (omega arith))
        | inr rest ↦ subst P (sym rest.0) (greatest_fraction-holds n P none (λ i lt. each i (omega arith)))
      ]

  pub greatest_fraction-some : (n : ℕ) → ((i : ℕ) → i < n → 0 < (f i).1) → 0 < (greatest_fraction n f).1
  greatest_fraction-some n some = greatest_fraction-holds n (λ r. 0 < r.1) (omega arith) some

  -- it is at least each fraction
  pub greatest_fraction-bound : (n : ℕ) → ((i : ℕ) → i < n → 0 < (f i).1) → (i : ℕ) → i < n → IsAtMost (f i) (greatest_fraction n f)
  greatest_fraction-bound zero some i lt = absurd (omega arith)
  greatest_fraction-bound (suc n) some i lt =
      let rest = greatest_fraction n f in
      let before : i < n → IsAtMost (f i) rest = λ less. greatest_fraction-bound n (λ j below. some j (omega arith)) i less in
      let pos : 0 < rest.1 = greatest_fraction-some n (λ j below. some j (omega arith)) in
      elim (greater_of-cases rest (f n)) [
        | inl last ↦
            subst (IsAtMost (f i)) (sym last.0)
            (elim (cases_eq i n) as (λ _. IsAtMost (f i) (f n)) [
              | inl at ↦ subst (λ j. IsAtMost (f i) (f j)) at (omega arith)
              | inr off ↦ IsAtMost-trans (f i) rest (f n) pos (before (omega arith)) last.1
            ])
        | inr kept ↦
            subst (IsAtMost (f i)) (sym kept.0)
            (elim (cases_eq i n) as (λ _. IsAtMost (f i) rest) [
              | inl at ↦ subst (λ j. IsAtMost (f j) rest) (sym at) kept.1
              | inr off ↦ before (omega arith)
            ])
      ]

  -- it is at most one of them
  pub greatest_fraction-reached : (n : ℕ) → 0 < n → (i : ℕ) × (i < n) × IsAtMost (greatest_fraction n f) (f i)
  greatest_fraction-reached zero some = absurd (omega arith)
  greatest_fraction-reached (suc n) some =
      let rest = greatest_fraction n f in
      elim (greater_of-cases rest (f n)) [
        | inl last ↦ (n, omega arith, subst (λ r. IsAtMost r (f n)) (sym last.0) (omega arith))
        | inr kept ↦
            elim (cases_lt 0 n) [
              | inl more ↦
                  let found = greatest_fraction-reached n more in
                  (found.0, omega (arith, found.1), subst (λ r. IsAtMost r (f found.0)) (sym kept.0) found.2)
              | inr none ↦
                  let at : n ≡ 0 = omega arith in
                  let first : IsAtMost (greatest_fraction 0 f) (f n) = omega arith in
                  (n, omega arith, subst (λ r. IsAtMost r (f n)) (sym kept.0) (subst (λ m. IsAtMost (greatest_fraction m f) (f n)) (sym at) first))
            ]
      ]

pub greatest_fraction-same : (n : ℕ) (f g : ℕ → ℕ × ℕ) → ((i : ℕ) → i < n → f i ≡ g i) → greatest_fraction n f ≡ greatest_fraction n g
greatest_fraction-same zero f g same = refl
greatest_fraction-same (suc n) f g same =
    ap₂ greater_of (greatest_fraction-same n f g (λ i lt. same i (omega arith))) (same n (omega arith))

-- Ratios

pub capacity-some : (capacities : List ℕ) (n : ℕ) → AreCapacities capacities n → (i : ℕ) → i < n → 0 < get_or capacities i 0
capacity-some capacities n are i lt = omega (arith, (are.in_range i 0 (omega (arith, are.one_each))).0)

-- a voter's count and capacity
abbrev pub use_of : List ℕ → (ℕ → ℕ) → ℕ → ℕ × ℕ
use_of capacities count i = (count i, get_or capacities i 0)

module _ (n : ℕ) (capacities : List ℕ) (count : ℕ → ℕ) (are : AreCapacities capacities n) where
  abbrev greatest : ℕ × ℕ
  greatest = greatest_fraction n (use_of capacities count)

  greatest-some : 0 < greatest.1
  greatest-some = greatest_fraction-some (use_of capacities count) n (capacity-some capacities n are)

  pub greatest_ratio-some : 0 < (greatest_ratio n capacities count).1
  unfolding greatest_ratio
  greatest_ratio-some = lowest_terms-some greatest.0 greatest.1 greatest-some

  pub greatest_ratio-lowest : IsGcd (greatest_ratio n capacities count).0 (greatest_ratio n capacities count).1 1
  unfolding greatest_ratio
  greatest_ratio-lowest = lowest_terms-lowest greatest.0 greatest.1 greatest-some

  greatest_ratio-exact : (greatest_ratio n capacities count).0 * greatest.1 ≡ greatest.0 * (greatest_ratio n capacities count).1
  unfolding greatest_ratio
  greatest_ratio-exact = lowest_terms-exact greatest.0 greatest.1

  -- it is at least each count, divided by the capacity
  pub greatest_ratio-bound : (i : ℕ) → i < n → count i * (greatest_ratio n capacities count).1 ≤ (greatest_ratio n capacities count).0 * get_or capacities i 0
  greatest_ratio-bound i lt =
      IsAtMost-trans (use_of capacities count i) greatest (greatest_ratio n capacities count) greatest-some
      (greatest_fraction-bound (use_of capacities count) n (capacity-some capacities n are) i lt)
      (omega (arith, greatest_ratio-exact))

  -- it is one of these quotients
  pub greatest_ratio-reached : 0 < n → (i : ℕ) × (i < n) × (count i * (greatest_ratio n capacities count).1 ≡ (greatest_ratio n capacities count).0 * get_or capacities i 0)
  greatest_ratio-reached some =
      let found = greatest_fraction-reached (use_of capacities count) n some in
      let back : IsAtMost (greatest_ratio n capacities count) (use_of capacities count found.0) =
      IsAtMost-trans (greatest_ratio n capacities count) greatest (use_of capacities count found.0) greatest-some
      (omega (arith, greatest_ratio-exact)) found.2 in
      (found.0, found.1, omega (arith, back, greatest_ratio-bound found.0 found.1))

  -- the lowest terms of a fraction that is at least each quotient, and at most one of them
  pub greatest_ratio-is : (a b : ℕ) → 0 < b → ((i : ℕ) → i < n → count i * b ≤ a * get_or capacities i 0)
      → (i : ℕ) → i < n → a * get_or capacities i 0 ≤ count i * b → greatest_ratio n capacities count ≡ lowest_terms a b
  unfolding greatest_ratio
  greatest_ratio-is a b some bound i lt reached =
      let found = greatest_fraction-reached (use_of capacities count) n (omega arith) in
      let low : IsAtMost greatest (a, b) =
      IsAtMost-trans greatest (use_of capacities count found.0) (a, b) (capacity-some capacities n are found.0 found.1) found.2 (bound found.0 found.1) in
      let high : IsAtMost (a, b) greatest =
      IsAtMost-trans (a, b) (use_of capacities count i) greatest (capacity-some capacities n are i lt) reached
      (greatest_fraction-bound (use_of capacities count) n (capacity-some capacities n are) i lt) in
      lowest_terms-same greatest.0 greatest.1 a b greatest-some some (omega (arith, low, high))

  -- its parts are no greater than the counts and the capacities
  pub greatest_ratio-small : (m : ℕ) → ((i : ℕ) → i < n → count i ≤ m) → ((greatest_ratio n capacities count).0 ≤ m) × ((greatest_ratio n capacities count).1 ≤ 1000)
  unfolding greatest_ratio
  greatest_ratio-small m most =
      let small = greatest_fraction-holds (use_of capacities count) n (λ r. (r.0 ≤ m) × (r.1 ≤ 1000)) (omega arith, omega arith)
      (λ i lt. (most i lt, (are.in_range i 0 (omega (arith, are.one_each))).1)) in (
        omega (arith, small.0, div-le_self greatest.0 (gcd_of greatest.0 greatest.1)),
        omega (arith, small.1, div-le_self greatest.1 (gcd_of greatest.0 greatest.1)),
      )

pub greatest_ratio-same : (n : ℕ) (capacities : List ℕ) (f g : ℕ → ℕ) → ((i : ℕ) → i < n → f i ≡ g i) → greatest_ratio n capacities f ≡ greatest_ratio n capacities g
unfolding greatest_ratio
greatest_ratio-same n capacities f g same =
    ap (λ r. lowest_terms r.0 r.1)
    (greatest_fraction-same n (use_of capacities f) (use_of capacities g) (λ i lt. ap (λ x. (x, get_or capacities i 0)) (same i lt)))

-- a list of counts is filled up from its front: it has those of the voters below i, and then also that of i
pub counts_with_next : (quorums : List (List ℕ)) (weights counts : List ℕ) (i v : ℕ) → i < length counts → v ≡ weight_on i quorums weights
    → ((j : ℕ) → j < i → get_or counts j 0 ≡ weight_on j quorums weights)
    → (j : ℕ) → j < i + 1 → get_or (set counts i v) j 0 ≡ weight_on j quorums weights
counts_with_next quorums weights counts i v long is below j lt =
    elim (cases_eq j i) as (λ _. get_or (set counts i v) j 0 ≡ weight_on j quorums weights) [
      | inl at ↦ get_or-set_at counts i j v 0 at long ∙ is ∙ ap (λ k. weight_on k quorums weights) (sym at)
      | inr off ↦ get_or-set_other counts i j v 0 off ∙ below j (omega arith)
    ]

-- what is a certificate has weights
pub AreWeights-certificate : (w : Weighted) → IsCertificate w → AreWeights w
AreWeights-certificate w h = record {
  coterie = h.coterie;
  capacities = h.capacities;
  quorums = h.quorums;
  voters = h.voters;
  some_quorum = h.some_quorum;
  few_quorums = h.few_quorums;
  some_voter = h.some_voter;
  few_voters = h.few_voters;
}

-- the load has no greater numbers than the ratio, divided by the cycle's length
pub load_of-le : (w : Weighted) → ((load_of w).0 ≤ (cycle_ratio w).0) × ((load_of w).1 ≤ (cycle_ratio w).1 * cycle_len w)
load_of-le w =
    let p = (cycle_ratio w).0 in
    let d = (cycle_ratio w).1 * cycle_len w in
    (div-le_self p (gcd_of p d), div-le_self d (gcd_of p d))

-- weights that are balanced are a certificate
pub IsCertificate-balanced : (w : Weighted) → AreWeights w → (cycle_ratio w).0 * capacity_total w ≡ (cycle_ratio w).1 * lightest_quorum w * cycle_len w → IsCertificate w
IsCertificate-balanced w h balanced = record {
  coterie = h.coterie;
  capacities = h.capacities;
  quorums = h.quorums;
  voters = h.voters;
  some_quorum = h.some_quorum;
  few_quorums = h.few_quorums;
  some_voter = h.some_voter;
  few_voters = h.few_voters;
  balanced = balanced;
}

module _ (w : Weighted) (h : AreWeights w) where
  pub cycle_ratio-some : 0 < (cycle_ratio w).1
  cycle_ratio-some = greatest_ratio-some w.system.voters w.capacities (cycle_count w) h.capacities

  pub cycle_ratio-small : ((cycle_ratio w).0 ≤ 1000000) × ((cycle_ratio w).1 ≤ 1000)
  cycle_ratio-small =
      greatest_ratio-small w.system.voters w.capacities (cycle_count w) h.capacities 1000000
      (λ i lt. omega (arith, weight_on-le i w.system.quorums w.quorum_weights, h.few_quorums))

  -- the denominator of the load, before it is reduced
  pub load_of-some : 0 < (cycle_ratio w).1 * cycle_len w
  load_of-some =
      let more : (cycle_ratio w).1 * 1 ≤ (cycle_ratio w).1 * cycle_len w = mul-le-mul_left (cycle_ratio w).1 h.some_quorum in
      omega (arith, more, cycle_ratio-some)

  load_of-small : (cycle_ratio w).1 * cycle_len w ≤ 1000000000
  load_of-small =
      let less : (cycle_ratio w).1 * cycle_len w ≤ (cycle_ratio w).1 * 1000000 = mul-le-mul_left (cycle_ratio w).1 h.few_quorums in
      omega (arith, less, cycle_ratio-small.1)

  pub load_of-fits : ((load_of w).0 ≤ 1000000) × ((load_of w).1 ≤ 1000000000)
  load_of-fits = (omega (arith, (load_of-le w).0, cycle_ratio-small.0), omega (arith, (load_of-le w).1, load_of-small))

  -- the same in what weights store
  pub stored-small : (sums : Sums) → AreSums w sums → sums.ratio.1 * sums.cycle_len ≤ 1000000000
  stored-small sums are =
      let same : sums.ratio.1 * sums.cycle_len ≡ (cycle_ratio w).1 * cycle_len w = ap₂ (λ r d. r.1 * d) are.ratio are.cycle_len in
      omega (arith, same, load_of-small)
