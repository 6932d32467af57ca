-- The excess of an order: voter by voter, by their greatest leads.
use Rattle.std.proofs.Common.{◌≡◌, ℕ, ◌+◌, ◌*◌, ◌/◌, ◌%◌, ◌<◌, ◌≤◌, cond, min, List, [], ◌∷◌, ◌++◌, length, get_or, suc, refl, sym, ap, ap₂, ◌∙◌, subst, inl, inr, arith}
use Rattle.std.specs.List.Sorted.{IsPermutation}
use Rattle.std.proofs.lemmas.Bool.{cases_eq, cases_lt}
use Rattle.std.proofs.lemmas.Grind.{div_ceil_times}
use Rattle.std.proofs.lemmas.List.{length-append, get_or_append_left, get_or_push}
use Rattle.std.proofs.lemmas.List.Elements.{All-nil, All-push}
use Rattle.std.proofs.lemmas.List.FromFn.{length-map-range_with_len}
use Rattle.std.proofs.lemmas.List.Sorted.{sum_by-IsPermutation, length_permutation}
use Rattle.std.proofs.lemmas.List.Sums.{sum_by-append}
use Rattle.std.proofs.lemmas.Nat.{mul-le}
use Rattle.numbers.specs.Sets.{has}
use Rattle.quorum_set.specs.Counts.{count_of}
use Rattle.certificate.specs.Certificates.{Weighted, cycle_len, cycle_ratio}
use Rattle.even.specs.EvenCycles.{EvenOrder, Row, even_quorum, window, quorums_of_rows}
use Rattle.even.specs.Leads.{IsGreatestLead}
use Rattle.even.specs.Slacks.{slack_unit, IsWithin, IsExcess}
use Rattle.even.specs.Strides.{with_stride, IsBestOf, IsFirstBest, IsMoreEven}
use Rattle.even.proofs.WindowLemmas.{repeat_order-window}

-- the bound for the voters below n
abbrev pub IsWithinBelow : EvenOrder → ℕ → ℕ → Type 0
IsWithinBelow o below excess =
    (i first n : ℕ) → i < below
    → slack_unit o.weights * count_of o.weights.system i (window o first n)
    ≤ get_or o.weights.capacities i 0 * (n * (cycle_ratio o.weights).0 + excess)

-- the smallest excess of the voters below n
pub record IsExcessBelow (o : EvenOrder) (below excess : ℕ) : Type 0 where
  pub bound : IsWithinBelow o below excess
  pub least : (other : ℕ) → IsWithinBelow o below other → excess ≤ other

bound_step : (x n p cap lead c e : ℕ) → x ≤ n * (p * cap) + lead → lead ≤ c * cap → c ≤ e → x ≤ cap * (n * p + e)
bound_step x n p cap lead c e le up most =
    let scaled : c * cap ≤ e * cap = mul-le c cap e cap most (omega arith) in
    omega (arith, le, up, scaled)

least_step : (x n p cap lead c f : ℕ) → x ≡ n * (p * cap) + lead → x ≤ cap * (n * p + f) → c * cap < lead + cap → c ≤ f
least_step x n p cap lead c f same le up =
    elim (cases_lt f c) [
      | inl above ↦
          let scaled : (f + 1) * cap ≤ c * cap = mul-le (f + 1) cap c cap (omega arith) (omega arith) in
          absurd (omega (arith, same, le, up, scaled))
      | inr most ↦ most
    ]

widened : (cap np e after x : ℕ) → x ≤ cap * (np + e) → e ≤ after → x ≤ cap * (np + after)
widened cap np e after x le more =
    let scaled : cap * (np + e) ≤ cap * (np + after) = mul-le cap (np + e) cap (np + after) (omega arith) (omega arith) in
    omega (arith, le, scaled)

-- one voter more
pub IsExcessBelow-more : (o : EvenOrder) (order : List ℕ) (i excess lead up after : ℕ) → 0 < cycle_len o.weights → order ≡ window o 0 (cycle_len o.weights) → 0 < get_or o.weights.capacities i 0
    → IsExcessBelow o i excess
    → IsGreatestLead o.weights.system i (slack_unit o.weights) ((cycle_ratio o.weights).0 * get_or o.weights.capacities i 0) order lead
    → up ≡ lead / get_or o.weights.capacities i 0 + min 1 (lead % get_or o.weights.capacities i 0)
    → excess ≤ after → up ≤ after → ((f : ℕ) → excess ≤ f → up ≤ f → after ≤ f)
    → IsExcessBelow o (i + 1) after
IsExcessBelow-more o order i excess lead up after some is cap before greatest rounded more up_more most =
    let d = cycle_len o.weights in
    let unit = slack_unit o.weights in
    let p = (cycle_ratio o.weights).0 in
    let capacity = get_or o.weights.capacities i 0 in
    let both = div_ceil_times lead capacity cap in
    let low : lead ≤ up * capacity = subst (λ u. lead ≤ u * capacity) (sym rounded) both.0 in
    let high : up * capacity < lead + capacity = subst (λ u. u * capacity < lead + capacity) (sym rounded) both.1 in
    let turned = λ (first n : ℕ). ap (λ list. unit * count_of o.weights.system i list) (repeat_order-window o order first n some is) in
    record {
      bound = λ j first n lt. elim (cases_eq j i) [
        | inl at ↦
            let here = bound_step (unit * count_of o.weights.system i (window o first n)) n p capacity lead up after (omega (arith, turned first n, greatest.bound first n)) low up_more in
            subst (λ v. unit * count_of o.weights.system v (window o first n) ≤ get_or o.weights.capacities v 0 * (n * p + after)) (sym at) here
        | inr off ↦
            let was = before.bound j first n (omega arith) in
            widened (get_or o.weights.capacities j 0) (n * p) excess after (unit * count_of o.weights.system j (window o first n)) was more
      ];
      least = λ f within.
          let (first, n, reached) = greatest.reached in
          most f
          (before.least f (λ j first n lt. within j first n (omega arith)))
          (least_step (unit * count_of o.weights.system i (window o first n)) n p capacity lead up f (sym (turned first n) ∙ reached) (within i first n (omega arith)) high);
    }

pub IsExcess-all : (o : EvenOrder) (n excess : ℕ) → n ≡ o.weights.system.voters → IsExcessBelow o n excess → IsExcess o excess
IsExcess-all o n excess all is =
    let whole = subst (λ v. IsExcessBelow o v excess) all is in
    record { bound = whole.bound; least = whole.least }

-- a whole cycle costs each voter at least what it gains
pub whole_costs : (d p q count cap : ℕ) → count * q ≤ p * cap → (d * q) * count ≤ d * (p * cap)
whole_costs d p q count cap le =
    let scaled : d * (count * q) ≤ d * (p * cap) = mul-le d (count * q) d (p * cap) (omega arith) le in
    omega (arith, scaled)

-- Strides

-- what is within an excess is within a greater one
IsWithin-more : (o : EvenOrder) (e f : ℕ) → e ≤ f → IsWithin o e → IsWithin o f
IsWithin-more o e f le within = λ i first n lt.
    widened (get_or o.weights.capacities i 0) (n * (cycle_ratio o.weights).0) e f (slack_unit o.weights * count_of o.weights.system i (window o first n)) (within i first n lt) le

-- one stride more: what is kept has the smaller excess of the two
pub IsBestOf-more : (w : Weighted) (strides : List ℕ) (best best_excess next next_excess kept kept_excess : ℕ)
    → IsExcess (with_stride w best) best_excess → IsExcess (with_stride w next) next_excess → IsExcess (with_stride w kept) kept_excess
    → kept_excess ≤ best_excess → kept_excess ≤ next_excess
    → IsBestOf strides (with_stride w best) → IsBestOf (strides ++ next ∷ []) (with_stride w kept)
IsBestOf-more w strides best best_excess next next_excess kept kept_excess is_best is_next is_kept to_best to_next before =
    let o = with_stride w kept in
    let better : ℕ → Type 0 = λ s. (excess : ℕ) → IsWithin (with_stride w s) excess → IsWithin o excess in
    All-push better strides next
    (λ k d lt excess within.
    let least = is_best.least excess (before k d lt excess within) in
    IsWithin-more o kept_excess excess (omega (arith, least, to_best)) is_kept.bound)
    (λ excess within.
    let least = is_next.least excess within in
    IsWithin-more o kept_excess excess (omega (arith, least, to_next)) is_kept.bound)

-- the first stride
pub IsBestOf-one : (w : Weighted) (stride : ℕ) → IsBestOf (stride ∷ []) (with_stride w stride)
IsBestOf-one w stride = All-push (λ s. (excess : ℕ) → IsWithin (with_stride w s) excess → IsWithin (with_stride w stride) excess) [] stride
    (All-nil (λ s. (excess : ℕ) → IsWithin (with_stride w s) excess → IsWithin (with_stride w stride) excess)) (λ excess within. within)

pub IsFirstBest-one : (w : Weighted) (stride : ℕ) → IsFirstBest (stride ∷ []) (with_stride w stride)
IsFirstBest-one w stride = record { place = 0; inside = omega arith; is = refl; best = IsBestOf-one w stride; earlier = λ k lt. absurd (omega arith) }

-- one stride more, whose slack is not smaller
pub IsFirstBest-kept : (w : Weighted) (strides : List ℕ) (best best_excess next next_excess : ℕ)
    → IsExcess (with_stride w best) best_excess → IsExcess (with_stride w next) next_excess → best_excess ≤ next_excess
    → IsFirstBest strides (with_stride w best) → IsFirstBest (strides ++ next ∷ []) (with_stride w best)
IsFirstBest-kept w strides best best_excess next next_excess is_best is_next le was =
    record {
      place = was.place;
      inside = omega (arith, was.inside, length-append strides (next ∷ []));
      is = get_or_append_left strides (next ∷ []) 0 was.place was.inside ∙ was.is;
      best = IsBestOf-more w strides best best_excess next next_excess best best_excess is_best is_next is_best (omega arith) le was.best;
      earlier = λ k lt.
          subst (λ s. IsMoreEven (with_stride w best) (with_stride w s))
          (sym (get_or_append_left strides (next ∷ []) 0 k (omega (arith, was.inside))))
          (was.earlier k lt);
    }

-- one stride more, whose slack is smaller
pub IsFirstBest-next : (w : Weighted) (strides : List ℕ) (best best_excess next next_excess : ℕ)
    → IsExcess (with_stride w best) best_excess → IsExcess (with_stride w next) next_excess → next_excess < best_excess
    → IsFirstBest strides (with_stride w best) → IsFirstBest (strides ++ next ∷ []) (with_stride w next)
IsFirstBest-next w strides best best_excess next next_excess is_best is_next lt was =
    let not_before : (k : ℕ) → k < length strides → ¬ IsWithin (with_stride w (get_or strides k 0)) next_excess =
    λ k below within. let least = is_best.least next_excess (was.best k 0 below next_excess within) in omega (arith, least, lt) in
    record {
      place = length strides;
      inside = omega (arith, length-append strides (next ∷ []));
      is = get_or_push strides next 0 (length strides) refl;
      best = IsBestOf-more w strides best best_excess next next_excess next next_excess is_best is_next is_next (omega arith) (omega arith) was.best;
      earlier = λ k below.
          subst (λ s. IsMoreEven (with_stride w next) (with_stride w s))
          (sym (get_or_append_left strides (next ∷ []) 0 k below))
          (next_excess, is_next.bound, not_before k below);
    }

-- of two orders of the same weights the second's stride is not later in the list
not_later : (strides : List ℕ) (first second : EvenOrder) → first.weights ≡ second.weights → (one : IsFirstBest strides first) → (other : IsFirstBest strides second) → one.place < other.place → ⊥
not_later strides first second same one other lt =
    let (excess, within, without) = other.earlier one.place lt in
    let moved : IsWithin (with_stride first.weights second.stride) excess = subst (λ w. IsWithin (with_stride w second.stride) excess) (sym same) within in
    let at : IsWithin (with_stride first.weights (get_or strides other.place 0)) excess = subst (λ s. IsWithin (with_stride first.weights s) excess) (sym other.is) moved in
    let best : IsWithin first excess = one.best other.place 0 other.inside excess at in
    without (subst (λ s. IsWithin (with_stride second.weights s) excess) (sym one.is) (subst (λ w. IsWithin (with_stride w first.stride) excess) same best))

pub IsFirstBest-one_stride : (strides : List ℕ) (first second : EvenOrder) → first.weights ≡ second.weights → IsFirstBest strides first → IsFirstBest strides second → first ≡ second
IsFirstBest-one_stride strides first second same one other =
    elim (cases_lt one.place other.place) [
      | inl before ↦ absurd (not_later strides first second same one other before)
      | inr not_before ↦ elim (cases_lt other.place one.place) [
        | inl after ↦ absurd (not_later strides second first (sym same) other one after)
        | inr not_after ↦
            let places : one.place ≡ other.place = omega arith in
            let strides_same : first.stride ≡ second.stride = sym one.is ∙ ap (λ k. get_or strides k 0) places ∙ other.is in
            ap₂ (λ (w : Weighted) (s : ℕ). with_stride w s) same strides_same
      ]
    ]

-- Several processes

count_of-rows : (o : EvenOrder) (excess i : ℕ) (rows : List Row) → IsWithin o excess → i < o.weights.system.voters
    → slack_unit o.weights * count_of o.weights.system i (quorums_of_rows o rows)
    ≤ get_or o.weights.capacities i 0 * (length (quorums_of_rows o rows) * (cycle_ratio o.weights).0 + length rows * excess)
count_of-rows o excess i [] within lt = omega arith
count_of-rows o excess i (row ∷ rows) within lt =
    let test : ℕ → ℕ = λ j. cond {A = ℕ} (has (get_or o.weights.system.quorums j []) i) 1 0 in
    joined (slack_unit o.weights) (get_or o.weights.capacities i 0) (cycle_ratio o.weights).0 excess row.1 (length (quorums_of_rows o rows)) (length rows) _ _ _ _
    (sum_by-append test (window o row.0 row.1) (quorums_of_rows o rows))
    (omega (arith, length-append (window o row.0 row.1) (quorums_of_rows o rows), length-map-range_with_len (even_quorum o) row.0 row.1))
    (within i row.0 row.1 lt)
    (count_of-rows o excess i rows within lt)
  where
    joined : (u cap p e n m k x y z long : ℕ) → z ≡ x + y → long ≡ n + m → u * x ≤ cap * (n * p + e) → u * y ≤ cap * (m * p + k * e) → u * z ≤ cap * (long * p + suc k * e)
    joined u cap p e n m k x y z long sum len first rest =
        omega (arith, ap (λ t. u * t) sum, ap (λ t. cap * (t * p + suc k * e)) len, first, rest)

pub count_of-permuted_rows : (o : EvenOrder) (excess : ℕ) (rows : List Row) (list : List ℕ) → IsWithin o excess → IsPermutation (quorums_of_rows o rows) list
    → (i : ℕ) → i < o.weights.system.voters
    → slack_unit o.weights * count_of o.weights.system i list ≤ get_or o.weights.capacities i 0 * (length list * (cycle_ratio o.weights).0 + length rows * excess)
count_of-permuted_rows o excess rows list within permuted i lt =
    let all = quorums_of_rows o rows in
    let counts = sum_by-IsPermutation (λ j. cond {A = ℕ} (has (get_or o.weights.system.quorums j []) i) 1 0) all list permuted in
    let long = length_permutation all list permuted in
    subst (λ c. slack_unit o.weights * c ≤ get_or o.weights.capacities i 0 * (length list * (cycle_ratio o.weights).0 + length rows * excess)) (sym counts)
    (subst (λ n. slack_unit o.weights * count_of o.weights.system i all ≤ get_or o.weights.capacities i 0 * (n * (cycle_ratio o.weights).0 + length rows * excess)) (sym long)
    (count_of-rows o excess i rows within lt))
