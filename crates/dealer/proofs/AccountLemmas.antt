-- What an account counts.
use Rattle.std.proofs.Common.{◌≡◌, ℕ, ◌+◌, ◌*◌, ◌%◌, ◌<◌, ◌≤◌, cond, eqb, List, [], ◌∷◌, ◌++◌, length, get_or, map, set, sum, sum_by, take, zero, suc, sym, refl, ap, ap₂, ◌∙◌, inl, inr, arith}
use Rattle.std.specs.List.{All}
use Rattle.std.proofs.lemmas.Bool.{cases_eq, cases_lt, eq-eqb, ne_eqb}
use Rattle.std.proofs.lemmas.List.{get_or-map, get_or-set_other, get_or-set_same, get_or_past, length-map, map-append, take_more}
use Rattle.std.proofs.lemmas.List.FromFn.{length-map-range_with_len, map-range_with_len_more, get_or-map-range_with_len, fill_by_all}
use Rattle.std.proofs.lemmas.List.Sums.{sum_by-cons}
use Rattle.std.proofs.Math.Nat.{le_of_mul-le-mul_right, mod-lt, mul_assoc, mul_comm}
use Rattle.quorum_set.specs.Coteries.{QuorumSystem}
use Rattle.quorum_set.specs.Counts.{count_of, busiest_of}
use Rattle.numbers.specs.Counts.{greatest_below, times}
use Rattle.certificate.specs.Certificates.{Weighted, IsCertificate, IsUnitOptimal, cycle_len, busiest_count}
use Rattle.certificate.specs.Loads.{weight_on}
use Rattle.certificate.specs.Ratios.{ratio_of}
use Rattle.certificate.proofs.EvenCycles.{count_of-even, busiest_of-even, ratio_of-even}
use Rattle.certificate.proofs.RatioLemmas.{AreWeights-certificate}
use Rattle.dealer.specs.declared.account.Account.{Account}
use Rattle.dealer.specs.Cycles.{cycle_of, quorum_of_ticket}
use Rattle.dealer.specs.Accounts.{values_below, quorums_named, account_of, ratio_of_cycles, IsWholeCycles}
use Rattle.numbers.specs.Sums.{sum_below}
use Rattle.numbers.proofs.SumsBelow.{sum_below-same, sum_below-list, sum_below-periods, length-sum_below, sum_by-each_once}
use Rattle.dealer.proofs.CycleLemmas.{length-cycle_of, times-cycle_of, cycle_of-lt}
use Rattle.numbers.proofs.CountLemmas.{times-append, times-cons}

pub length-values_below : (n : ℕ) (f : ℕ → ℕ) → length (values_below n f) ≡ n
length-values_below n f = length-map-range_with_len f 0 n

pub get_or-values_below : (n : ℕ) (f : ℕ → ℕ) (i : ℕ) → i < n → get_or (values_below n f) i 0 ≡ f i
get_or-values_below n f i lt = get_or-map-range_with_len f 0 n i i 0 lt (omega arith)

-- one value more
pub values_below-more : (n : ℕ) (f : ℕ → ℕ) (before after : List ℕ) (value : ℕ) → before ≡ values_below n f → value ≡ f n → after ≡ before ++ value ∷ [] → after ≡ values_below (n + 1) f
values_below-more n f before after value made here pushed =
    pushed ∙ ap₂ (λ (xs : List ℕ) (x : ℕ). xs ++ x ∷ []) made here ∙ sym (map-range_with_len_more f 0 n n (omega arith))

sum-values_below : (n : ℕ) (f : ℕ → ℕ) → sum (values_below n f) ≡ sum_below f n
sum-values_below n f =
    sym (sum_below-list (λ x. x) (values_below n f))
    ∙ ap (λ m. sum_below (λ i. get_or (values_below n f) i 0) m) (length-values_below n f)
    ∙ sum_below-same n (λ i. get_or (values_below n f) i 0) f (get_or-values_below n f)

-- no more quorums are counted than are named
sum-times-le : (n : ℕ) (list : List ℕ) → sum (values_below n (λ j. times j list)) ≤ length list
sum-times-le n list = omega (arith, sum-values_below n (λ j. times j list), length-sum_below n list)

-- the counts of tickets' quorums: one for each quorum, and in all no more than the tickets
pub counts-long : (w : Weighted) (tickets counts : List ℕ) → counts ≡ (account_of w tickets).quorums → length counts ≡ length w.system.quorums
counts-long w tickets counts are = ap length are ∙ length-values_below (length w.system.quorums) (λ j. times j (quorums_named w tickets))

pub counts-fit : (w : Weighted) (tickets counts : List ℕ) → counts ≡ (account_of w tickets).quorums → sum counts ≤ length tickets
counts-fit w tickets counts are =
    omega (
      arith,
      ap sum are,
      sum-times-le (length w.system.quorums) (quorums_named w tickets),
      length-map tickets (quorum_of_ticket w),
    )

-- tickets name quorums of the plan alone
pub ticket_in_range : (w : Weighted) (ticket : ℕ) → IsCertificate w → quorum_of_ticket w ticket < length w.system.quorums
ticket_in_range w ticket is =
    let some = is.some_quorum in
    omega (arith, cycle_of-lt w.quorum_weights (ticket % cycle_len w) (mod-lt ticket {m = cycle_len w} some), is.quorums)

times-past : (w : Weighted) (tickets : List ℕ) (j : ℕ) → IsCertificate w → length w.system.quorums ≤ j → times j (quorums_named w tickets) ≡ 0
times-past w [] j is past = refl
times-past w (x ∷ xs) j is past =
    let off = ap (λ b. cond {A = ℕ} b 1 0) (ne_eqb (quorum_of_ticket w x) j (λ same. omega (arith, ticket_in_range w x is))) in
    omega (arith, times-cons j (quorum_of_ticket w x) (quorums_named w xs), off, times-past w xs j is past)

-- the counts of the quorums, at each number
times-counts : (w : Weighted) (tickets : List ℕ) → IsCertificate w → (j : ℕ)
    → times j (quorums_named w tickets) ≡ 1 * get_or (values_below (length w.system.quorums) (λ k. times k (quorums_named w tickets))) j 0
times-counts w tickets is j =
    let n = length w.system.quorums in
    let counts = values_below n (λ k. times k (quorums_named w tickets)) in
    elim (cases_lt j n) as (λ _. times j (quorums_named w tickets) ≡ 1 * get_or counts j 0) [
      | inl inside ↦ omega (arith, get_or-values_below n (λ k. times k (quorums_named w tickets)) j inside)
      | inr outside ↦
          let past = get_or_past counts j 0 (omega (arith, length-values_below n (λ k. times k (quorums_named w tickets)))) in
          omega (arith, times-past w tickets j is outside, past)
    ]

-- a voter's count, by the counts of the quorums taken as weights
pub count_of-by_quorum : (w : Weighted) (tickets : List ℕ) → IsCertificate w → (i : ℕ)
    → count_of w.system i (quorums_named w tickets) ≡ weight_on i w.system.quorums (account_of w tickets).quorums
count_of-by_quorum w tickets is i =
    let counted : Weighted = record w { quorum_weights = (account_of w tickets).quorums } in
    let long = length-values_below (length w.system.quorums) (λ j. times j (quorums_named w tickets)) in
    omega (arith, count_of-even counted 1 (quorums_named w tickets) long (times-counts w tickets is) i)

sum_by-map : (h f : ℕ → ℕ) (xs : List ℕ) → sum_by h (map f xs) ≡ sum_by (λ x. h (f x)) xs
sum_by-map h f [] = refl
sum_by-map h f (x ∷ xs) =
    omega (arith, sum_by-cons h (f x) (map f xs), sum_by-cons (λ y. h (f y)) x xs, sum_by-map h f xs)

-- the tickets of k cycles name each quorum k times its weight
pub times-whole : (w : Weighted) (k : ℕ) (tickets : List ℕ) → IsWholeCycles w k tickets → (j : ℕ) → times j (quorums_named w tickets) ≡ k * get_or w.quorum_weights j 0
times-whole w k tickets whole j =
    let cycle = cycle_of w.quorum_weights in
    let is_j : ℕ → ℕ = λ x. cond (eqb x j) 1 0 in
    let at_place : ℕ → ℕ = λ place. is_j (get_or cycle place 0) in
    let long = length-cycle_of w.quorum_weights in
    sum_by-map is_j (quorum_of_ticket w) tickets
    ∙ sum_by-each_once (k * cycle_len w) tickets whole.in_all whole.each_once (λ x. at_place (x % cycle_len w))
    ∙ sum_below-periods k (cycle_len w) (k * cycle_len w) at_place refl
    ∙ ap (λ t. k * t) (ap (λ n. sum_below at_place n) (sym long) ∙ sum_below-list is_j cycle ∙ times-cycle_of w.quorum_weights j)

-- they use the busiest voter k times as often as one does, and their ratio is k times as great
pub busiest_of-whole : (w : Weighted) (k : ℕ) (tickets : List ℕ) → IsCertificate w → IsWholeCycles w k tickets → busiest_of w.system (quorums_named w tickets) ≡ k * busiest_count w
busiest_of-whole w k tickets is whole = busiest_of-even w k (quorums_named w tickets) is.quorums (times-whole w k tickets whole)

pub ratio_of-whole : (w : Weighted) (k : ℕ) (tickets : List ℕ) → IsCertificate w → IsWholeCycles w k tickets → ratio_of w.system w.capacities (quorums_named w tickets) ≡ ratio_of_cycles w k
ratio_of-whole w k tickets is whole = ratio_of-even w k (quorums_named w tickets) (AreWeights-certificate w is) (times-whole w k tickets whole)

-- the account of k cycles has k times the weights
pub quorums-whole : (w : Weighted) (k : ℕ) (tickets : List ℕ) → IsCertificate w → IsWholeCycles w k tickets
    → values_below (length w.system.quorums) (λ j. times j (quorums_named w tickets)) ≡ map (λ weight. k * weight) w.quorum_weights
quorums-whole w k tickets is whole =
    sym (fill_by_all (λ j. times j (quorums_named w tickets)) (map (λ weight. k * weight) w.quorum_weights) (length w.system.quorums) 0
    (length-map w.quorum_weights (λ weight. k * weight) ∙ is.quorums)
    (λ j lt. get_or-map (λ weight. k * weight) w.quorum_weights j 0 0 (omega (arith, is.quorums)) ∙ sym (times-whole w k tickets whole j)))

greatest_below-same : (n : ℕ) (f g : ℕ → ℕ) → ((i : ℕ) → i < n → f i ≡ g i) → greatest_below n f ≡ greatest_below n g
greatest_below-same zero f g same = refl
greatest_below-same (suc n) f g same =
    omega (arith, greatest_below-same n f g (λ i lt. same i (omega arith)), same n (omega arith))

-- the greatest of a list of values
pub greatest_below-values : (n : ℕ) (f : ℕ → ℕ) → greatest_below (length (values_below n f)) (λ i. get_or (values_below n f) i 0) ≡ greatest_below n f
greatest_below-values n f =
    ap (λ m. greatest_below m (λ i. get_or (values_below n f) i 0)) (length-values_below n f)
    ∙ greatest_below-same n (λ i. get_or (values_below n f) i 0) f (get_or-values_below n f)

pub values_below-same : (n : ℕ) (f g : ℕ → ℕ) → ((i : ℕ) → f i ≡ g i) → values_below n f ≡ values_below n g
values_below-same n f g same =
    fill_by_all g (values_below n f) n 0 (length-values_below n f) (λ i lt. get_or-values_below n f i lt ∙ same i)

-- the voters' counts, summed from those of the quorums
pub voters-from_quorums : (w : Weighted) (tickets : List ℕ) (s : QuorumSystem) (counts voters : List ℕ) → IsCertificate w
    → s ≡ w.system → counts ≡ (account_of w tickets).quorums → voters ≡ values_below s.voters (λ i. weight_on i s.quorums counts)
    → voters ≡ (account_of w tickets).voters
voters-from_quorums w tickets s counts voters is same counted summed =
    summed
    ∙ ap₂ (λ (t : QuorumSystem) (list : List ℕ). values_below t.voters (λ i. weight_on i t.quorums list)) same counted
    ∙ sym (values_below-same w.system.voters (λ i. count_of w.system i (quorums_named w tickets)) (λ i. weight_on i w.system.quorums (account_of w tickets).quorums) (count_of-by_quorum w tickets is))

-- an account by its parts
pub account_of-parts : (w : Weighted) (tickets quorums voters : List ℕ) (busiest : ℕ) (ratio : ℕ × ℕ)
    → quorums ≡ (account_of w tickets).quorums → voters ≡ (account_of w tickets).voters → busiest ≡ (account_of w tickets).busiest
    → ratio ≡ (account_of w tickets).ratio
    → ◌≡◌ {A = Account} (record { drawn = length tickets; quorums = quorums; voters = voters; busiest = busiest; ratio = ratio }) (account_of w tickets)
account_of-parts w tickets quorums voters busiest ratio in_quorums in_voters most greatest =
    let made : List ℕ → List ℕ → ℕ → ℕ × ℕ → Account =
    λ q v b r. record { drawn = length tickets; quorums = q; voters = v; busiest = b; ratio = r } in
    let whole = account_of w tickets in
    ap (λ q. made q voters busiest ratio) in_quorums
    ∙ ap (λ v. made whole.quorums v busiest ratio) in_voters
    ∙ ap (λ b. made whole.quorums whole.voters b ratio) most
    ∙ ap (made whole.quorums whole.voters whole.busiest) greatest

-- with capacities that are all 1, k cycles are dealt as evenly as any quorums in equal number
pub busiest_of-least : (w : Weighted) (k : ℕ) (list : List ℕ) → IsCertificate w → IsUnitOptimal w → length list ≡ k * cycle_len w → All (λ j. j < length w.system.quorums) list
    → k * busiest_count w ≤ busiest_of w.system list
busiest_of-least w k list is optimal long within =
    scaled k (cycle_len w) (length list) (busiest_count w) (busiest_of w.system list) is.some_quorum long (optimal list within)
  where
    scaled : (k d n m top : ℕ) → 0 < d → n ≡ k * d → n * m ≤ top * d → k * m ≤ top
    scaled k d n m top some long le =
        let same : k * m * d ≡ n * m = mul_assoc k m d ∙ ap (λ x. k * x) (mul_comm m d) ∙ sym (mul_assoc k d m) ∙ ap (λ x. x * m) (sym long) in
        le_of_mul-le-mul_right {k = d} (omega (arith, same, le)) some

-- the counts of one ticket more
pub times-more_counts : (w : Weighted) (tickets counts : List ℕ) (i j value : ℕ) → i < length tickets → ((k : ℕ) → get_or counts k 0 ≡ times k (quorums_named w (take i tickets)))
    → j ≡ quorum_of_ticket w (get_or tickets i 0) → j < length counts → value ≡ get_or counts j 0
    → (k : ℕ) → get_or (set counts j (value + 1)) k 0 ≡ times k (quorums_named w (take (i + 1) tickets))
times-more_counts w tickets counts i j value lt counted names inside was k =
    let more = ap (λ ts. times k (quorums_named w ts)) (take_more tickets i 0 lt)
    ∙ ap (times k) (map-append (quorum_of_ticket w) (take i tickets) (get_or tickets i 0 ∷ []))
    ∙ times-append k (quorums_named w (take i tickets)) (quorum_of_ticket w (get_or tickets i 0) ∷ [])
    ∙ ap (λ q. times k (quorums_named w (take i tickets)) + times k (q ∷ [])) (sym names) in
    elim (cases_eq j k) [
      | inl at ↦
          let here = ap (λ b. cond {A = ℕ} b 1 0) (eq-eqb j k at) in
          let written : get_or (set counts j (value + 1)) k 0 ≡ value + 1 = ap (λ n. get_or (set counts j (value + 1)) n 0) (sym at) ∙ get_or-set_same counts j (value + 1) 0 inside in
          omega (arith, more, times-cons k j [], here, written, was, ap (λ n. get_or counts n 0) at, counted k)
      | inr off ↦
          let here = ap (λ b. cond {A = ℕ} b 1 0) (ne_eqb j k off) in
          omega (arith, more, times-cons k j [], here, get_or-set_other counts j k (value + 1) 0 (λ same. off (sym same)), counted k)
    ]
