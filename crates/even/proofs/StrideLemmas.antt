-- A stride that has no divisor in common with a length misses no place.
use Rattle.std.proofs.Common.{◌≡◌, ℕ, ◌+◌, ◌-◌, ◌*◌, ◌/◌, ◌%◌, ◌<◌, ◌≤◌, cond, List, length, get_or, map, zero, suc, sym, refl, ap, ◌∙◌, subst, inl, inr, arith}
use Rattle.std.specs.Int.{IsGcd, ◌∣◌}
use Rattle.std.specs.List.{range_with_len}
use Rattle.std.proofs.lemmas.Bool.{cases_eq, cases_lt, eq-eqb, ne_eqb}
use Rattle.std.proofs.lemmas.List.FromFn.{length-map-range_with_len, get_or-map-range_with_len}
use Rattle.std.proofs.lemmas.Nat.{mul-mod_first}
use Rattle.std.proofs.lemmas.Nat.Gcd.{dvd-zero, le_of_dvd}
use Rattle.std.proofs.Math.Nat.{add-mod-mod, div-add-mod, dvd-mul_left, dvd-mul_right, mod-lt, mul-sub, mul_comm}
use Rattle.numbers.specs.Counts.{times}
use Rattle.numbers.specs.Sums.{sum_below}
use Rattle.numbers.proofs.CountLemmas.{times-cons, sum_by-none_above}
use Rattle.numbers.proofs.SumsBelow.{length-sum_below, sum_below-same, sum_below-le, sum_below-list, sum_below-one, sum_by-each_once}
use Rattle.divisor.proofs.GcdLemmas.{IsGcd-times}

-- what divides a times s, and has no divisor in common with s, divides a
dvd_from_coprime : (s d a : ℕ) → IsGcd s d 1 → d ∣ a * s → d ∣ a
dvd_from_coprime s d zero is h = dvd-zero d
dvd_from_coprime s d (suc a) is h =
    let scaled = IsGcd-times (suc a) s d 1 (omega arith) is in
    subst (λ x. d ∣ x) (times_one (suc a)) (scaled.2 d h (dvd-mul_left d (suc a)))
  where
    times_one : (a : ℕ) → a * 1 ≡ a
    times_one a = omega arith

-- two numbers with the same remainder differ by a multiple
pub dvd_from_same_mod : (a b d : ℕ) → a % d ≡ b % d → d ∣ b - a
dvd_from_same_mod a b d same =
    let whole : d * (b / d - a / d) ≡ b - a = omega (arith, mul-sub d (b / d) (a / d), div-add-mod a d, div-add-mod b d, same) in
    subst (λ x. d ∣ x) whole (dvd-mul_right d (b / d - a / d))

-- no two of d numbers in a row have the same place
pub same_from_place_of : (s d t u : ℕ) → IsGcd s d 1 → t ≤ u → u < t + d → t * s % d ≡ u * s % d → t ≡ u
same_from_place_of s d t u is le lt same =
    let apart : u * s - t * s ≡ (u - t) * s = omega (arith, mul-sub s u t, mul_comm s u, mul_comm s t, mul_comm s (u - t)) in
    let divides = dvd_from_coprime s d (u - t) is (subst (λ x. d ∣ x) apart (dvd_from_same_mod (t * s) (u * s) d same)) in
    elim (cases_lt 0 (u - t)) [
      | inl some ↦ let most = le_of_dvd some divides in absurd (omega (arith, most))
      | inr none ↦ omega arith
    ]

-- what none of n numbers in a row is mapped to is not in the list of their values
times-map_none : (f : ℕ → ℕ) (a n y : ℕ) → ((t : ℕ) → a ≤ t → t < a + n → f t ≡ y → ⊥) → times y (map f (range_with_len a n)) ≡ 0
times-map_none f a zero y none = refl
times-map_none f a (suc n) y none =
    let here = ap (λ b. cond {A = ℕ} b 1 0) (ne_eqb (f a) y (none a (omega arith) (omega arith))) in
    omega (arith, times-cons y (f a) (map f (range_with_len (a + 1) n)), here, times-map_none f (a + 1) n y (λ t le lt. none t (omega arith) (omega arith)))

-- if no two of n numbers in a row have the same value, no value comes twice
times-map_le : (f : ℕ → ℕ) (a n y : ℕ) → ((t u : ℕ) → a ≤ t → t ≤ u → u < a + n → f t ≡ f u → t ≡ u) → times y (map f (range_with_len a n)) ≤ 1
times-map_le f a zero y apart = omega arith
times-map_le f a (suc n) y apart =
    let rest = map f (range_with_len (a + 1) n) in
    elim (cases_eq (f a) y) [
      | inl at ↦
          let here = ap (λ b. cond {A = ℕ} b 1 0) (eq-eqb (f a) y at) in
          let none = times-map_none f (a + 1) n y (λ t le lt same. let e = apart a t (omega arith) (omega arith) (omega arith) (at ∙ sym same) in omega (arith, e)) in
          omega (arith, times-cons y (f a) rest, here, none)
      | inr off ↦
          let here = ap (λ b. cond {A = ℕ} b 1 0) (ne_eqb (f a) y off) in
          let less = times-map_le f (a + 1) n y (λ t u le le' lt same. apart t u (omega arith) le' (omega arith) same) in
          omega (arith, times-cons y (f a) rest, here, less)
    ]

-- n numbers of at most 1 that add up to n are all 1
all_ones : (n : ℕ) (h : ℕ → ℕ) → ((y : ℕ) → y < n → h y ≤ 1) → sum_below h n ≡ n → (y : ℕ) → y < n → h y ≡ 1
all_ones zero h small whole y lt = absurd (omega arith)
all_ones (suc n) h small whole y lt =
    let most = sum_below-le n h (λ _. 1) (λ y lt. small y (omega arith)) in
    let last = small n (omega arith) in
    elim (cases_eq y n) [
      | inl at ↦ omega (arith, ap h at, most, last, sum_below-one n, whole)
      | inr off ↦ all_ones n h (λ y lt. small y (omega arith)) (omega (arith, most, last, sum_below-one n, whole)) y (omega arith)
    ]

-- a list of n numbers below n in which none comes twice has each of them once
each_once_from_le : (n : ℕ) (list : List ℕ) → length list ≡ n → ((y : ℕ) → n ≤ y → times y list ≡ 0) → ((y : ℕ) → times y list ≤ 1)
    → (y : ℕ) → y < n → times y list ≡ 1
each_once_from_le n list long none small =
    let whole : sum_below (λ y. times y list) n ≡ n = omega (arith, length-sum_below n list, sum_by-none_above n list none) in
    all_ones n (λ y. times y list) (λ y lt. small y) whole

-- a sum over d tickets in a row, at their places, is one over all places
pub sum_below-strided : (s d first : ℕ) (h : ℕ → ℕ) → 0 < d → IsGcd s d 1 → sum_below (λ t. h ((first + t) * s % d)) d ≡ sum_below h d
sum_below-strided s d first h some is =
    let f : ℕ → ℕ = λ t. (first + t) * s % d in
    let list = map f (range_with_len 0 d) in
    let long : length list ≡ d = length-map-range_with_len f 0 d in
    let small = times-map_le f 0 d in
    let once = each_once_from_le d list long
    (λ y past. times-map_none f 0 d y (λ t le lt at. let below = mod-lt ((first + t) * s) {m = d} some in omega (arith, below, at)))
    (λ y. small y (λ t u low le lt same. let e = same_from_place_of s d (first + t) (first + u) is (omega arith) (omega arith) same in omega (arith, e))) in
    let at_places = sum_below-same d (λ t. h (f t)) (λ t. h (get_or list t 0)) (λ t lt. ap h (sym (get_or-map-range_with_len f 0 d t t 0 lt (omega arith)))) in
    at_places
    ∙ ap (λ n. sum_below (λ t. h (get_or list t 0)) n) (sym long)
    ∙ sum_below-list h list
    ∙ sum_by-each_once d list long once h

-- a ticket's place, counted from another one, comes again after d tickets
pub place_again : (s d first t : ℕ) → (first + t % d) * s % d ≡ (first + t) * s % d
place_again s d first t =
    sym (mul-mod_first (first + t % d) s d)
    ∙ ap (λ x. x * s % d) (add-mod-mod first t d)
    ∙ mul-mod_first (first + t) s d
