-- Rows of tickets: what they gain, and how often they use each quorum.
use Rattle.std.proofs.Common.{◌≡◌, ℕ, ◌+◌, ◌*◌, ◌%◌, ◌<◌, ◌≤◌, Bool, true, false, cond, eqb, List, [], ◌∷◌, ◌++◌, length, get_or, map, zero, suc, sum_by, sym, refl, ap, ap₂, ◌∙◌, arith, add-one}
use Rattle.std.specs.List.{All, range_with_len}
use Rattle.std.specs.List.Sorted.{IsPermutation}
use Rattle.std.proofs.lemmas.List.{length-append}
use Rattle.std.proofs.lemmas.List.FromFn.{length-map-range_with_len, get_or-map-range_with_len, map-range_with_len_more, sum_by-map-range_with_len_more}
use Rattle.std.proofs.lemmas.List.Elements.{All-from_get_or}
use Rattle.std.proofs.lemmas.List.Sorted.{sum_by-IsPermutation, length_permutation}
use Rattle.std.proofs.lemmas.List.Sums.{sum_by-cons}
use Rattle.std.proofs.lemmas.Nat.{mul-mod_first}
use Rattle.std.proofs.Math.Nat.{mod-eq_of_lt, mod-lt}
use Rattle.numbers.specs.Counts.{greatest_below, times}
use Rattle.numbers.specs.Sets.{has}
use Rattle.numbers.specs.Sums.{sum_below}
use Rattle.numbers.proofs.CountLemmas.{times-append}
use Rattle.numbers.proofs.SumsBelow.{sum_below-list, sum_below-periods, sum_below-same}
use Rattle.quorum_set.specs.Coteries.{QuorumSystem}
use Rattle.quorum_set.specs.Counts.{count_of}
use Rattle.certificate.specs.Certificates.{AreWeights, cycle_len}
use Rattle.even.specs.EvenCycles.{EvenOrder, Row, places_of, even_quorum, window, IsFair, quorums_of_rows, whole_rows, total_of}
use Rattle.even.specs.Leads.{gains_of, lead_after, repeat_order, IsGreatestLead}
use Rattle.even.proofs.StrideLemmas.{place_again, sum_below-strided}
use Rattle.even.proofs.PlaceLemmas.{length-places_of, places_of-lt, times-places_of}
use Rattle.even.proofs.LeadLemmas.{gained, greatest_lead-is}

-- a sum over the values of n numbers in a row
sum_by-map_range : (h q : ℕ → ℕ) (a n : ℕ) → sum_by h (map q (range_with_len a n)) ≡ sum_below (λ t. h (q (a + t))) n
sum_by-map_range h q a zero = refl
sum_by-map_range h q a (suc n) =
    ap (λ m. sum_by h (map q (range_with_len a m))) (sym (add-one n)) ∙ sum_by-map-range_with_len_more h q a n (a + n) refl
    ∙ ap (λ t. t + h (q (a + n))) (sum_by-map_range h q a n)

-- Gains

-- what a quorum gains for a voter
abbrev gain_for : QuorumSystem → ℕ → ℕ → ℕ → ℕ
gain_for s i gain j = cond (has (get_or s.quorums j []) i) gain 0

-- a count, each time with the gain
times-count_of : (s : QuorumSystem) (i gain : ℕ) (list : List ℕ) → gain * count_of s i list ≡ sum_by (gain_for s i gain) list
times-count_of s i gain [] = omega arith
times-count_of s i gain (j ∷ list) =
    omega (
      arith,
      ap (λ n. gain * n) (sum_by-cons (λ k. cond {A = ℕ} (has (get_or s.quorums k []) i) 1 0) j list),
      sum_by-cons (gain_for s i gain) j list,
      times-count_of s i gain list,
      one (has (get_or s.quorums j []) i) gain,
    )
  where
    one : (b : Bool) (gain : ℕ) → gain * cond {A = ℕ} b 1 0 ≡ cond b gain 0
    one true gain = omega arith
    one false gain = omega arith

-- the gains of a walk that begins again at its end
abbrev again_of : QuorumSystem → ℕ → ℕ → List ℕ → ℕ → ℕ
again_of s i gain order t = gains_of s i gain order (t % length order)

gained-repeat_order : (s : QuorumSystem) (i gain : ℕ) (order : List ℕ) (first n : ℕ) → gain * count_of s i (repeat_order order first n) ≡ gained (again_of s i gain order) first n
gained-repeat_order s i gain order first n =
    times-count_of s i gain (repeat_order order first n)
    ∙ sum_by-map_range (gain_for s i gain) (λ t. get_or order (t % length order) 0) first n

gained-whole : (s : QuorumSystem) (i gain : ℕ) (order : List ℕ) → gain * count_of s i order ≡ gained (again_of s i gain order) 0 (length order)
gained-whole s i gain order =
    times-count_of s i gain order
    ∙ sym (sum_below-list (gain_for s i gain) order)
    ∙ sum_below-same (length order) (λ t. gain_for s i gain (get_or order t 0)) (λ t. again_of s i gain order (0 + t))
    (λ t lt. let none : t ≡ 0 + t = omega arith in ap (gains_of s i gain order) (sym (mod-eq_of_lt lt) ∙ ap (λ x. x % length order) none))

-- the greatest lead, by the two rounds of a walk
pub IsGreatestLead-rounds : (s : QuorumSystem) (i gain cost : ℕ) (order : List ℕ) (start greatest : ℕ) → 0 < length order → gain * count_of s i order ≤ length order * cost
    → start ≡ lead_after (gains_of s i gain order) cost 0 (length order) → greatest ≡ greatest_below (length order + 1) (lead_after (gains_of s i gain order) cost start)
    → IsGreatestLead s i gain cost order greatest
IsGreatestLead-rounds s i gain cost order start greatest some whole begun most =
    let d = length order in
    let g = again_of s i gain order in
    let again : (t : ℕ) → g (t % d) ≡ g t = λ t. ap (gains_of s i gain order) (mod-eq_of_lt (mod-lt t {m = d} some)) in
    let both = greatest_lead-is (gains_of s i gain order) g cost d start greatest some again
    (λ t lt. ap (gains_of s i gain order) (sym (mod-eq_of_lt lt)))
    (omega (arith, gained-whole s i gain order, whole)) begun most in
    let (a, n, same) = both.1 in
    record {
      bound = λ first n. omega (arith, gained-repeat_order s i gain order first n, both.0 first n);
      reached = (a, n, gained-repeat_order s i gain order a n ∙ same);
    }

-- Windows

even_quorum-again : (o : EvenOrder) (t : ℕ) → even_quorum o (t % cycle_len o.weights) ≡ even_quorum o t
even_quorum-again o t = ap (λ p. get_or (places_of o.weights.quorum_weights) p 0) (mul-mod_first t o.stride (cycle_len o.weights))

-- the tickets of one cycle, begun again at their end, are all tickets
pub repeat_order-window : (o : EvenOrder) (order : List ℕ) (first n : ℕ) → 0 < cycle_len o.weights → order ≡ window o 0 (cycle_len o.weights) → repeat_order order first n ≡ window o first n
repeat_order-window o order first n some is =
    let d = cycle_len o.weights in
    let long : length order ≡ d = ap length is ∙ length-map-range_with_len (even_quorum o) 0 d in
    let each : (t : ℕ) → get_or order (t % length order) 0 ≡ even_quorum o t = λ t. ap (λ m. get_or order (t % m) 0) long
    ∙ ap (λ list. get_or list (t % d) 0) is
    ∙ get_or-map-range_with_len (even_quorum o) 0 d (t % d) (t % d) 0 (mod-lt t {m = d} some) (omega arith)
    ∙ even_quorum-again o t in
    λ i. map (λ t. each t i) (range_with_len first n)

-- k cycles from any ticket on use each quorum k times its weight
pub times-window : (o : EvenOrder) (first k j : ℕ) → 0 < cycle_len o.weights → IsFair o → times j (window o first (k * cycle_len o.weights)) ≡ k * get_or o.weights.quorum_weights j 0
times-window o first k j some fair =
    let d = cycle_len o.weights in
    let weights = o.weights.quorum_weights in
    let places = places_of weights in
    let is_j : ℕ → ℕ = λ x. cond (eqb x j) 1 0 in
    let at_place : ℕ → ℕ = λ p. is_j (get_or places p 0) in
    let from : ℕ → ℕ = λ t. at_place ((first + t) * o.stride % d) in
    sum_by-map_range is_j (even_quorum o) first (k * d)
    ∙ sum_below-same (k * d) (λ t. from t) (λ t. from (t % d)) (λ t lt. ap at_place (sym (place_again o.stride d first t)))
    ∙ sum_below-periods k d (k * d) from refl
    ∙ ap (λ x. k * x)
    (sum_below-strided o.stride d first at_place some fair
    ∙ ap (λ n. sum_below at_place n) (sym (length-places_of weights))
    ∙ sum_below-list is_j places
    ∙ times-places_of weights j)

-- so does one cycle from ticket 0
pub times-round : (o : EvenOrder) (j : ℕ) → 0 < cycle_len o.weights → IsFair o → times j (window o 0 (cycle_len o.weights)) ≡ 1 * get_or o.weights.quorum_weights j 0
times-round o j some fair =
    let one : cycle_len o.weights ≡ 1 * cycle_len o.weights = omega arith in
    ap (λ n. times j (window o 0 n)) one ∙ times-window o 0 1 j some fair

-- a ticket's quorum, by its place in the first cycle
pub even_quorum-place : (o : EvenOrder) (ticket len stride : ℕ) → len ≡ cycle_len o.weights → stride ≡ o.stride
    → get_or (places_of o.weights.quorum_weights) (ticket % len * stride % len) 0 ≡ even_quorum o ticket
even_quorum-place o ticket len stride long is =
    ap (λ d. get_or (places_of o.weights.quorum_weights) (ticket % d * stride % d) 0) long
    ∙ ap (λ s. get_or (places_of o.weights.quorum_weights) (ticket % cycle_len o.weights * s % cycle_len o.weights) 0) is
    ∙ even_quorum-again o ticket

-- tickets stand for quorums that there are
pub even_quorum-lt : (o : EvenOrder) (ticket : ℕ) → AreWeights o.weights → even_quorum o ticket < length o.weights.system.quorums
even_quorum-lt o ticket is =
    let place = ticket * o.stride % cycle_len o.weights in
    let inside = mod-lt (ticket * o.stride) {m = cycle_len o.weights} is.some_quorum in
    omega (arith, places_of-lt o.weights.quorum_weights place inside, is.quorums)

pub All-window : (o : EvenOrder) (first n : ℕ) → AreWeights o.weights → All (λ j. j < length o.weights.system.quorums) (window o first n)
All-window o first n is =
    All-from_get_or (λ j. j < length o.weights.system.quorums) (window o first n) 0
    (λ k lt. let at = get_or-map-range_with_len (even_quorum o) first n k (first + k) 0 (omega (arith, length-map-range_with_len (even_quorum o) first n)) refl in
    omega (arith, at, even_quorum-lt o (first + k) is))

-- one ticket more
pub window-more : (o : EvenOrder) (before after : List ℕ) (ticket quorum : ℕ) → before ≡ window o 0 ticket → quorum ≡ even_quorum o ticket → after ≡ before ++ quorum ∷ []
    → after ≡ window o 0 (ticket + 1)
window-more o before after ticket quorum made here pushed =
    pushed ∙ ap₂ (λ (xs : List ℕ) (x : ℕ). xs ++ x ∷ []) made here ∙ sym (map-range_with_len_more (even_quorum o) 0 ticket ticket (omega arith))

-- the same of several processes' cycles, one after another
times-rows : (o : EvenOrder) (cycles : List Row) (j : ℕ) → 0 < cycle_len o.weights → IsFair o → times j (quorums_of_rows o (whole_rows o cycles)) ≡ total_of cycles * get_or o.weights.quorum_weights j 0
times-rows o [] j some fair = omega arith
times-rows o (row ∷ cycles) j some fair =
    let total = sum_by-cons (λ (row : Row). row.1) row cycles in
    omega (
      arith,
      times-append j (window o row.0 (row.1 * cycle_len o.weights)) (quorums_of_rows o (whole_rows o cycles)),
      times-window o row.0 row.1 j some fair,
      times-rows o cycles j some fair,
      ap (λ n. n * get_or o.weights.quorum_weights j 0) total,
    )

-- and in any order
pub times-permuted_rows : (o : EvenOrder) (cycles : List Row) (list : List ℕ) → 0 < cycle_len o.weights → IsFair o → IsPermutation (quorums_of_rows o (whole_rows o cycles)) list
    → (j : ℕ) → times j list ≡ total_of cycles * get_or o.weights.quorum_weights j 0
times-permuted_rows o cycles list some fair permuted j =
    sum_by-IsPermutation (λ k. cond (eqb k j) 1 0) (quorums_of_rows o (whole_rows o cycles)) list permuted ∙ times-rows o cycles j some fair

length-rows : (o : EvenOrder) (cycles : List Row) → length (quorums_of_rows o (whole_rows o cycles)) ≡ total_of cycles * cycle_len o.weights
length-rows o [] = omega arith
length-rows o (row ∷ cycles) =
    let d = cycle_len o.weights in
    let total = sum_by-cons (λ (row : Row). row.1) row cycles in
    omega (
      arith,
      length-append (window o row.0 (row.1 * d)) (quorums_of_rows o (whole_rows o cycles)),
      length-map-range_with_len (even_quorum o) row.0 (row.1 * d),
      length-rows o cycles,
      ap (λ n. n * d) total,
    )

pub length-permuted_rows : (o : EvenOrder) (cycles : List Row) (list : List ℕ) → IsPermutation (quorums_of_rows o (whole_rows o cycles)) list → length list ≡ total_of cycles * cycle_len o.weights
length-permuted_rows o cycles list permuted = length_permutation (quorums_of_rows o (whole_rows o cycles)) list permuted ∙ length-rows o cycles
