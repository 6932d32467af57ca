-- The quorums that a cycle of weights uses are a coterie.
use Rattle.std.proofs.Common.{◌≡◌, ℕ, zero, suc, ◌+◌, ◌<◌, ◌≤◌, cond, true, false, List, [], ◌∷◌, ◌++◌, length, get_or, map, slice_get, sym, subst, ap, ◌∙◌, arith, Some, Err}
use Rattle.std.specs.Prelude.{All, AllPairs, filter, slice_index, sum}
use Rattle.std.specs.List.{range_with_len}
use Rattle.std.proofs.lemmas.Bool.{le-ltb, lt-ltb}
use Rattle.std.proofs.lemmas.List.{append-nil, length-map, get_or-map, map-append, map-id}
use Rattle.std.proofs.lemmas.Option.{get_or_from_slice_get}
use Rattle.std.proofs.lemmas.List.Elements.{All-filter, All-map, filter-append}
use Rattle.std.proofs.lemmas.List.FromFn.{get_or-range_with_len, length-range_with_len, map-range_with_len_more}
use Rattle.std.proofs.lemmas.List.Kept.{AllPairs-filter}
use Rattle.std.proofs.lemmas.List.Sums.{count_by-le-length, get_or-le-sum_by, length-filter, sum_by-cons}
use Rattle.numbers.specs.Sets.{IsSet, meet, within}
use Rattle.quorum_set.specs.Coteries.{IsCoterie, coterie_of, coterie_or}
use Rattle.quorum_set.specs.declared.fault.CoterieFault.{CoterieFault}
use Rattle.quorum_set.proofs.FaultLaws.{first_fault-IsCoterie}
use Rattle.certificate.specs.Certificates.{AreWeights, Weighted}
use Rattle.show_failures.specs.Used.{is_used, used_below, used_system}

abbrev quorum_at : Weighted → ℕ → List ℕ
quorum_at w j = get_or w.system.quorums j []

-- one quorum more
more : (w : Weighted) (n : ℕ) → used_below w (n + 1) ≡ used_below w n ++ map (quorum_at w) (cond (is_used w n) (n ∷ []) [])
more w n =
    let range : range_with_len 0 (n + 1) ≡ range_with_len 0 n ++ n ∷ [] =
    sym (map-id (range_with_len 0 (n + 1))) ∙ map-range_with_len_more (λ j. j) 0 n n (omega arith) ∙ ap (λ xs. xs ++ n ∷ []) (map-id (range_with_len 0 n)) in
    ap (map (quorum_at w)) (ap (filter (is_used w)) range ∙ filter-append (is_used w) (range_with_len 0 n) (n ∷ []))
    ∙ map-append (quorum_at w) (filter (is_used w) (range_with_len 0 n)) (cond (is_used w n) (n ∷ []) [])

-- the list with a quorum that is used
pub with_used : (w : Weighted) (n weight : ℕ) (q : List ℕ) (old new : List (List ℕ)) → old ≡ used_below w n → weight ≡ slice_index w.quorum_weights n → 0 < weight
    → slice_get w.system.quorums n ≡ Some q → new ≡ old ++ q ∷ [] → new ≡ used_below w (n + 1)
with_used w n weight q old new is value some at added =
    let used : is_used w n ≡ true = lt-ltb 0 (slice_index w.quorum_weights n) (subst (λ k. 0 < k) value some) in
    added ∙ ap (λ xs. xs ++ q ∷ []) is ∙ ap (λ x. used_below w n ++ x ∷ []) (sym (get_or_from_slice_get w.system.quorums n q [] at))
    ∙ sym (more w n ∙ ap (λ b. used_below w n ++ map (quorum_at w) (cond b (n ∷ []) [])) used)

-- the list without a quorum that is not used
pub without_used : (w : Weighted) (n weight : ℕ) (new : List (List ℕ)) → new ≡ used_below w n → weight ≡ slice_index w.quorum_weights n → weight ≤ 0
    → new ≡ used_below w (n + 1)
without_used w n weight new is value none =
    let unused : is_used w n ≡ false = le-ltb 0 (slice_index w.quorum_weights n) (omega (arith, none, value)) in
    is ∙ sym (more w n ∙ ap (λ b. used_below w n ++ map (quorum_at w) (cond b (n ∷ []) [])) unused ∙ append-nil (used_below w n))

-- some weight is not 0
some_weight : (weights : List ℕ) → 0 < sum weights → (j : ℕ) × (j < length weights) × (0 < slice_index weights j)
some_weight [] some = absurd (omega arith)
some_weight (suc x ∷ weights) some = (0, omega arith, omega arith)
some_weight (zero ∷ weights) some =
    let rest = some_weight weights (omega (arith, some, sum_by-cons (λ x. x) 0 weights)) in
    (suc rest.0, omega (arith, rest.1), rest.2)

-- the numbers below n, in their order
number_at : (n k d : ℕ) → k < n → get_or (range_with_len 0 n) k d ≡ k
number_at n k d lt = omega (arith, get_or-range_with_len 0 n k d lt)

all_used : (w : Weighted) (P : List ℕ → Type 0) → All P w.system.quorums → All P (used_system w).quorums
all_used w P all =
    let n = length w.system.quorums in
    All-map P (quorum_at w) (filter (is_used w) (range_with_len 0 n)) (All-filter (is_used w) (λ j. P (quorum_at w j)) (range_with_len 0 n)
    (λ k d lt. let long = length-range_with_len 0 n in
    subst (λ j. P (quorum_at w j)) (sym (number_at n k d (omega (arith, lt, long)))) (all k [] (omega (arith, lt, long)))))

pairs_used : (w : Weighted) (R : List ℕ → List ℕ → Type 0) → AllPairs R w.system.quorums → AllPairs R (used_system w).quorums
pairs_used w R all i j d lt inner =
    let n = length w.system.quorums in
    let numbers = filter (is_used w) (range_with_len 0 n) in
    let kept = AllPairs-filter (λ a b. R (quorum_at w a) (quorum_at w b)) (is_used w) (range_with_len 0 n)
    (λ a b e less inside. let long = length-range_with_len 0 n in
    rw (number_at n a e (omega (arith, less, inside, long)), number_at n b e (omega (arith, inside, long))) (all a b [] less (omega (arith, inside, long)))) in
    let here : j < length numbers = omega (arith, inner, length-map numbers (quorum_at w)) in
    rw (get_or-map (quorum_at w) numbers i 0 d (omega (arith, lt, here)), get_or-map (quorum_at w) numbers j 0 d here) (kept i j 0 lt here)

some_used : (w : Weighted) → AreWeights w → 0 < length (used_system w).quorums
some_used w is =
    let n = length w.system.quorums in
    let numbers = range_with_len 0 n in
    let found = some_weight w.quorum_weights is.some_quorum in
    let one_each = is.quorums in
    let in_it : found.0 < n = omega (arith, one_each, found.1) in
    let used : is_used w found.0 ≡ true = lt-ltb 0 (slice_index w.quorum_weights found.0) found.2 in
    let at : cond {A = ℕ} (is_used w (get_or numbers found.0 0)) 1 0 ≡ 1 =
    ap (λ j. cond {A = ℕ} (is_used w j) 1 0) (number_at n found.0 0 in_it) ∙ ap (λ b. cond {A = ℕ} b 1 0) used in
    let least = get_or-le-sum_by (λ j. cond {A = ℕ} (is_used w j) 1 0) numbers found.0 0 (omega (arith, in_it, length-range_with_len 0 n)) in
    omega (arith, at, least, length-map (filter (is_used w) numbers) (quorum_at w), length-filter (is_used w) numbers)

pub IsCoterie-used : (w : Weighted) → AreWeights w → IsCoterie (used_system w)
IsCoterie-used w is =
    let s = is.coterie in
    let n = length w.system.quorums in
    record {
      some_voter = s.some_voter;
      few_voters = s.few_voters;
      some_quorum = some_used w is;
      few_quorums = let few = s.few_quorums in
          omega (
            arith,
            few,
            length-map (filter (is_used w) (range_with_len 0 n)) (quorum_at w),
            length-filter (is_used w) (range_with_len 0 n),
            count_by-le-length (is_used w) (range_with_len 0 n),
            length-range_with_len 0 n,
          );
      sets = all_used w IsSet s.sets;
      not_empty = all_used w (λ q. 0 < length q) s.not_empty;
      in_range = all_used w (λ q. All (λ i. i < w.system.voters) q) s.in_range;
      meets = pairs_used w (λ q r. meet q r ≡ true) s.meets;
      apart = pairs_used w (λ q r. (within q r ≡ false) × (within r q ≡ false)) s.apart;
    }

-- the quorums that a cycle uses have no fault
pub no_used_fault : (w : Weighted) (e : CoterieFault) → AreWeights w → coterie_of w.system.voters (used_below w (length w.system.quorums)) ≡ Err e → ⊥
no_used_fault w e is refused =
    let none = first_fault-IsCoterie w.system.voters (used_below w (length w.system.quorums)) (IsCoterie-used w is) in
    let made = ap (λ f. coterie_or f (used_system w)) none in
    cc
