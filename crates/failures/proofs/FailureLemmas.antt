-- Sets that meet every quorum.
use Rattle.std.proofs.Common.{◌≡◌, ◌≢◌, ℕ, zero, suc, ◌+◌, ◌-◌, ◌^◌, ◌<◌, ◌≤◌, Bool, true, false, true≢false, not, cond, ◌==◌, ◌||◌, List, [], ◌∷◌, ◌++◌, length, filter, get_or, sym}
use Rattle.std.proofs.Common.{refl, ap, ap₂, subst, ◌∙◌, arith, Err, inl, inr, ne_eqb}
use Rattle.std.proofs.lemmas.Bool.{cases_eq, eq-eqb}
use Rattle.std.proofs.lemmas.Nat.{pow_pos}
use Rattle.std.proofs.Math.Nat.{two-pow-succ}
use Rattle.std.proofs.Math.Numerals.{add-one}
use Rattle.std.proofs.Math.Pow.{pow_mono}
use Rattle.std.specs.Prelude.{All, nat_lt}
use Rattle.std.proofs.lemmas.Bool.Decides.{nat_tests}
use Rattle.std.proofs.lemmas.List.Elements.{All-filter, filter-append}
use Rattle.std.proofs.lemmas.List.Kept.{AllPairs-filter}
use Rattle.std.proofs.lemmas.List.Sums.{length-filter, count_by-le-length}
use Rattle.numbers.specs.Sets.{has, meet, within, Ascends, IsSet}
use Rattle.numbers.proofs.SetLemmas.{has-head, has-tail, has-below}
use Rattle.numbers.proofs.Meetings.{All-members, has-later, meet-common, meet-from, within-from, within-has}
use Rattle.numbers.proofs.Members.{All-has}
use Rattle.quorum_set.specs.declared.fault.CoterieFault.{CoterieFault}
use Rattle.quorum_set.specs.Coteries.{QuorumSystem, IsCoterie, are_disjoint, coterie_of, coterie_or}
use Rattle.quorum_set.proofs.FaultLaws.{first_fault-IsCoterie}
use Rattle.quorum_set.proofs.Meetings.{AllMeet-coterie}
use Rattle.std.specs.Prelude.{Some, slice_get, take}
use Rattle.std.proofs.lemmas.List.{take_more}
use Rattle.std.proofs.lemmas.Option.{get_or_from_slice_get}
use Rattle.failures.specs.Failures.{MeetsEach, IsTransversal, IsSmallestWith, system_without, undecided}
use Rattle.numbers.specs.Sums.{sum_below}
use Rattle.numbers.proofs.SumsBelow.{sum_below-le, sum_below-one}

-- by cases on a test
by_test : {P : Type 0} (b : Bool) → (b ≡ true → P) → (b ≡ false → P) → P
by_test {P = P} b h g = elim b as (λ c. b ≡ c → P) [
  | true ↦ λ e. h e
  | false ↦ λ e. g e
] refl

-- a member is at least the lower bound
has-low : (low high : ℕ) (s : List ℕ) (i : ℕ) → Ascends low high s → has s i ≡ true → low ≤ i
has-low low high s i up e = by_test (nat_lt i low)
    (λ below. absurd (true≢false (sym e ∙ has-below low high s i up (grind (arith, nat_tests)))))
    (λ above. grind (arith, nat_tests))

-- a set within another one has no more members
pub length-within : (low high : ℕ) (s t : List ℕ) → Ascends low high s → Ascends low high t → within s t ≡ true → length s ≤ length t
length-within low high [] t up other w = omega arith
length-within low high (x ∷ xs) [] up other w = absurd (true≢false (sym (within-has (x ∷ xs) [] x w (has-head x xs))))
length-within low high (x ∷ xs) (y ∷ ys) up other w = elim (cases_eq y x) as (λ _. length (x ∷ xs) ≤ length (y ∷ ys)) [
  | inl same ↦
      let rest : within xs ys ≡ true = within-from xs ys (λ i e.
      let far : y ≢ i = λ it. let above = has-low (x + 1) high xs i up.2 e in omega arith in
      sym (has-tail y ys i far) ∙ within-has (x ∷ xs) (y ∷ ys) i w (has-later x xs i e)) in
      let more = length-within (x + 1) high xs ys up.2 (subst (λ n. Ascends (n + 1) high ys) same other.2) rest in
      omega arith
  | inr far ↦
      let here : has ys x ≡ true = sym (has-tail y ys x far) ∙ within-has (x ∷ xs) (y ∷ ys) x w (has-head x xs) in
      let above = has-low (y + 1) high ys x other.2 here in
      let rest : within (x ∷ xs) ys ≡ true = within-from (x ∷ xs) ys (λ i e.
      let least = has-low x high (x ∷ xs) i (omega arith, up.1, up.2) e in
      let far_too : y ≢ i = λ it. omega arith in
      sym (has-tail y ys i far_too) ∙ within-has (x ∷ xs) (y ∷ ys) i w e) in
      let more = length-within (y + 1) high (x ∷ xs) ys (above, up.1, up.2) other.2 rest in
      omega arith
]

-- Steps of the search

-- a set that has no barred member meets no set of barred members alone
pub all_barred : (barred q other : List ℕ) → All (λ i. has barred i ≡ true) q → meet other q ≡ true → meet barred other ≡ false → ⊥
all_barred barred q other all meets apart =
    let common = meet-common other q meets in
    let is_barred = All-has (λ i. has barred i ≡ true) q common.0 common.2 all in
    true≢false (sym (meet-from barred other common.0 is_barred common.1) ∙ apart)

-- the members of a set with one more voter
abbrev pub IsWith : List ℕ → List ℕ → ℕ → Type 0
IsWith more s v = (i : ℕ) → i < 64 → has more i ≡ ((i == v) || has s i)

-- the members of a set are below its bound
below_bound : (low high : ℕ) (s : List ℕ) (i : ℕ) → Ascends low high s → has s i ≡ true → i < high
below_bound low high [] i up e = absurd (true≢false (sym e))
below_bound low high (x ∷ xs) i up e = elim (cases_eq x i) as (λ _. i < high) [
  | inl same ↦ subst (λ n. n < high) same up.1
  | inr far ↦ below_bound (x + 1) high xs i up.2 (sym (has-tail x xs i far) ∙ e)
]

from_with : (more s : List ℕ) (v i : ℕ) → IsSet more → IsWith more s v → has more i ≡ true → ((i == v) || has s i) ≡ true
from_with more s v i set is e = sym (is i (below_bound 0 64 more i set e)) ∙ e

-- one more voter is below the same bound
pub All-from_with : (n : ℕ) (more s : List ℕ) (v : ℕ) → IsSet more → IsWith more s v → v < n → All (λ i. i < n) s → All (λ i. i < n) more
All-from_with n more s v set is lt all = All-members (λ i. i < n) more (λ i e.
    elim (cases_eq i v) as (λ _. i < n) [
      | inl same ↦ subst (λ k. k < n) (sym same) lt
      | inr far ↦ All-has (λ k. k < n) s i (sym (ap (λ b. b || has s i) (ne_eqb i v far)) ∙ from_with more s v i set is e) all
    ])

-- either with the voter or without it: a set that is smallest in both cases is smallest
pub either_way : (quorums : List (List ℕ)) (chosen barred with without first result : List ℕ) (v : ℕ)
    → IsSet with → IsSet without → IsWith with chosen v → IsWith without barred v
    → IsSmallestWith quorums with barred first → length result ≤ length first → IsSmallestWith quorums chosen without result
    → IsSmallestWith quorums chosen barred result
either_way quorums chosen barred with without first result v set_with set_without is_with is_without best shorter rest other set has_chosen no_barred meets = by_test (has other v)
    (λ in_it.
    let all : within with other ≡ true = within-from with other (λ i e.
    elim (cases_eq i v) as (λ _. has other i ≡ true) [
      | inl same ↦ ap (has other) same ∙ in_it
      | inr far ↦ within-has chosen other i has_chosen (sym (ap (λ b. b || has chosen i) (ne_eqb i v far)) ∙ from_with with chosen v i set_with is_with e)
    ]) in
    let bound = best other set all no_barred meets in
    omega arith)
    (λ outside. rest other set has_chosen (by_test (meet without other)
    (λ touches.
    let common = meet-common without other touches in
    elim (cases_eq common.0 v) as (λ _. meet without other ≡ false) [
      | inl same ↦ absurd (true≢false (sym (ap (has other) (sym same) ∙ common.2) ∙ outside))
      | inr far ↦
          let is_barred = sym (ap (λ b. b || has barred common.0) (ne_eqb common.0 v far)) ∙ from_with without barred v common.0 set_without is_without common.1 in
          absurd (true≢false (sym (meet-from barred other common.0 is_barred common.2) ∙ no_barred))
    ])
    (λ apart. apart)) meets)

-- How many steps are enough

-- of two tests, the one that also passes one more number fails fewer
sum_below-fewer : (n v : ℕ) (p q : ℕ → Bool) → v < n → ((i : ℕ) → i < n → p i ≡ true → q i ≡ true) → p v ≡ false → q v ≡ true
    → sum_below (λ i. cond (q i) 0 1) n + 1 ≤ sum_below (λ i. cond (p i) 0 1) n
sum_below-fewer zero v p q lt more fails passes = absurd (omega arith)
sum_below-fewer (suc n) v p q lt more fails passes = elim (cases_eq v n) as (λ _. sum_below (λ i. cond (q i) 0 1) (suc n) + 1 ≤ sum_below (λ i. cond (p i) 0 1) (suc n)) [
  | inl same ↦
      let rest = sum_below-le n (λ i. cond (q i) 0 1) (λ i. cond (p i) 0 1) (λ i below. fails_less (p i) (q i) (more i (omega arith))) in
      let here : cond {A = ℕ} (q n) 0 1 ≡ 0 = ap (λ b. cond {A = ℕ} b 0 1) (ap q (sym same) ∙ passes) in
      let there : cond {A = ℕ} (p n) 0 1 ≡ 1 = ap (λ b. cond {A = ℕ} b 0 1) (ap p (sym same) ∙ fails) in
      omega arith
  | inr far ↦
      let rest = sum_below-fewer n v p q (omega arith) (λ i below. more i (omega arith)) fails passes in
      let here = fails_less (p n) (q n) (more n (omega arith)) in
      omega arith
]
  where
    fails_less : (a b : Bool) → (a ≡ true → b ≡ true) → cond {A = ℕ} b 0 1 ≤ cond {A = ℕ} a 0 1
    fails_less true b then = rw (then refl) (omega arith)
    fails_less false true then = omega arith
    fails_less false false then = omega arith

or_swap : (a b : Bool) → (a || b) ≡ true → (b || a) ≡ true
or_swap true true e = refl
or_swap true false e = refl
or_swap false b e = rw e refl

-- what was decided stays so
still_decided : (same was now other : Bool) → now ≡ (same || was) → (was || other) ≡ true → (now || other) ≡ true
still_decided true was now other is before = rw is refl
still_decided false was now other is before = rw is before

-- a voter that becomes chosen is no longer undecided
pub undecided-chosen : (n v : ℕ) (with chosen barred : List ℕ) → v < n → n ≤ 64 → IsWith with chosen v → has chosen v ≡ false → has barred v ≡ false
    → undecided n with barred + 1 ≤ undecided n chosen barred
undecided-chosen n v with chosen barred lt few is outside free = sum_below-fewer n v (λ i. has chosen i || has barred i) (λ i. has with i || has barred i) lt
    (λ i below before. still_decided (i == v) (has chosen i) (has with i) (has barred i) (is i (omega arith)) before)
    (ap (λ b. b || has barred v) outside ∙ free)
    (ap (λ b. b || has barred v) (is v (omega arith) ∙ ap (λ b. b || has chosen v) (eq-eqb v v refl)))

-- nor is one that becomes barred
pub undecided-barred : (n v : ℕ) (without chosen barred : List ℕ) → v < n → n ≤ 64 → IsWith without barred v → has chosen v ≡ false → has barred v ≡ false
    → undecided n chosen without + 1 ≤ undecided n chosen barred
undecided-barred n v without chosen barred lt few is outside free = sum_below-fewer n v (λ i. has chosen i || has barred i) (λ i. has chosen i || has without i) lt
    (λ i below before. or_swap (has without i) (has chosen i)
    (still_decided (i == v) (has barred i) (has without i) (has chosen i) (is i (omega arith)) (or_swap (has chosen i) (has barred i) before)))
    (ap (λ b. b || has barred v) outside ∙ free)
    (or_swap (has without v) (has chosen v) (ap (λ b. b || has chosen v) (is v (omega arith) ∙ ap (λ b. b || has barred v) (eq-eqb v v refl))))

-- a step and what follows it in two cases, each with fewer undecided voters
pub spent-twice : (old first last u with without : ℕ) → 0 < old → with + 1 ≤ u → without + 1 ≤ u → old - 1 < first + 2 ^ (with + 1) → first < last + 2 ^ (without + 1)
    → old < last + 2 ^ (u + 1)
spent-twice old first last u with without some fewer less a b =
    let p : 2 ^ (with + 1) ≤ 2 ^ u = pow_mono fewer in
    let q : 2 ^ (without + 1) ≤ 2 ^ u = pow_mono less in
    let double : 2 ^ (u + 1) ≡ 2 ^ u + 2 ^ u = rw add-one (two-pow-succ u) in
    omega arith

-- at most one step
pub spent-once : (old last u : ℕ) → old ≤ last + 1 → old < last + 2 ^ (u + 1)
spent-once old last u one =
    let double : 2 ^ (u + 1) ≡ 2 ^ u + 2 ^ u = rw add-one (two-pow-succ u) in
    omega (arith, pow_pos u)

-- at first all voters are undecided
pub spent-all : (n old left : ℕ) (chosen barred : List ℕ) → chosen ≡ [] → barred ≡ [] → old < left + 2 ^ (undecided n chosen barred + 1) → old < left + 2 ^ (n + 1)
spent-all n old left chosen barred none_chosen none_barred spent =
    let all : undecided n chosen barred ≡ n = ap₂ (undecided n) none_chosen none_barred ∙ sum_below-one n in
    let same : 2 ^ (undecided n chosen barred + 1) ≡ 2 ^ (n + 1) = ap (λ k. 2 ^ (k + 1)) all in
    omega arith

-- What is left of a coterie

-- a filter that leaves nothing refuses the first element and leaves nothing of the rest
filter-nothing : {A : Type 0} (b : Bool) (x : A) (rest : List A) → cond b (x ∷ rest) rest ≡ [] → (b ≡ false) × (rest ≡ [])
filter-nothing true x rest e = cc
filter-nothing false x rest e = (refl, e)

not-not_true : (b : Bool) → not b ≡ false → b ≡ true
not-not_true true e = refl
not-not_true false e = cc

pub MeetsEach-from_nothing : (failed : List ℕ) (sets : List (List ℕ)) → filter (are_disjoint failed) sets ≡ [] → MeetsEach sets failed
MeetsEach-from_nothing failed [] e j lt = absurd (omega arith)
MeetsEach-from_nothing failed (q ∷ sets) e zero lt =
    not-not_true (meet failed q) (filter-nothing (are_disjoint failed q) q (filter (are_disjoint failed) sets) e).0
MeetsEach-from_nothing failed (q ∷ sets) e (suc j) lt =
    MeetsEach-from_nothing failed sets (filter-nothing (are_disjoint failed q) q (filter (are_disjoint failed) sets) e).1 j (omega arith)

-- quorums of a coterie, at least one, are a coterie
pub IsCoterie-filter : (s : QuorumSystem) (failed : List ℕ) → IsCoterie s → 0 < length (filter (are_disjoint failed) s.quorums)
    → IsCoterie (system_without failed s)
IsCoterie-filter s failed is some = record {
  some_voter = is.some_voter;
  few_voters = is.few_voters;
  some_quorum = some;
  few_quorums = let few = is.few_quorums in omega (arith, length-filter (are_disjoint failed) s.quorums, count_by-le-length (are_disjoint failed) s.quorums);
  sets = All-filter (are_disjoint failed) IsSet s.quorums is.sets;
  not_empty = All-filter (are_disjoint failed) (λ q. 0 < length q) s.quorums is.not_empty;
  in_range = All-filter (are_disjoint failed) (λ q. All (λ i. i < s.voters) q) s.quorums is.in_range;
  meets = AllPairs-filter (λ q r. meet q r ≡ true) (are_disjoint failed) s.quorums is.meets;
  apart = AllPairs-filter (λ q r. (within q r ≡ false) × (within r q ≡ false)) (are_disjoint failed) s.quorums is.apart;
}

-- quorums of a coterie are refused only if there are none
pub refused-nothing : (s : QuorumSystem) (failed : List ℕ) (e : CoterieFault) → IsCoterie s
    → coterie_of s.voters (filter (are_disjoint failed) s.quorums) ≡ Err e → MeetsEach s.quorums failed
refused-nothing s failed e is refused = MeetsEach-from_nothing failed s.quorums (nothing (filter (are_disjoint failed) s.quorums) refl)
  where
    nothing : (left : List (List ℕ)) → filter (are_disjoint failed) s.quorums ≡ left → filter (are_disjoint failed) s.quorums ≡ []
    nothing [] same = same
    nothing (q ∷ left) same =
        let some : 0 < length (filter (are_disjoint failed) s.quorums) = rw same (omega arith) in
        let none = first_fault-IsCoterie s.voters (filter (are_disjoint failed) s.quorums) (IsCoterie-filter s failed is some) in
        let made = ap (λ f. coterie_or f (system_without failed s)) none in
        cc

-- a quorum that is read by its number has a common member with each quorum
pub IsTransversal-quorum : (s : QuorumSystem) (k : ℕ) (q r : List ℕ) → IsCoterie s → k < length s.quorums → slice_get s.quorums k ≡ Some q → r ≡ q → IsTransversal s r
IsTransversal-quorum s k q r is lt at same = subst (IsTransversal s) (get_or_from_slice_get s.quorums k q [] at ∙ sym same) (record {
  is_set = is.sets k [] lt;
  voters = is.in_range k [] lt;
  meets = λ j here.
      let common = AllMeet-coterie s is k j lt here in
      meet-from (get_or s.quorums k []) (get_or s.quorums j []) common.0 common.2 common.3;
})

-- the members of a set are below 64
pub below_all : (q : List ℕ) (n v : ℕ) → has q v ≡ true → All (λ i. i < n) q → n ≤ 64 → v < 64
below_all q n v e all few = let here = All-has (λ i. i < n) q v e all in omega arith

-- whoever meets each quorum meets one that is read by its number
pub meets_at : (quorums : List (List ℕ)) (k : ℕ) (q other : List ℕ) → slice_get quorums k ≡ Some q → k < length quorums
    → MeetsEach quorums other → meet other q ≡ true
meets_at quorums k q other at lt meets = subst (λ t. meet other t ≡ true) (get_or_from_slice_get quorums k q [] at) (meets k lt)

-- a member of a quorum that is read by its number is in no set that is apart from the quorum
pub outside_at : (quorums : List (List ℕ)) (k v : ℕ) (q chosen : List ℕ) → slice_get quorums k ≡ Some q → meet chosen (get_or quorums k []) ≡ false
    → has q v ≡ true → has chosen v ≡ false
outside_at quorums k v q chosen at apart member = by_test (has chosen v)
    (λ in_it. absurd (true≢false (sym (meet-from chosen q v in_it member) ∙ ap (meet chosen) (sym (get_or_from_slice_get quorums k q [] at)) ∙ apart)))
    (λ outside. outside)

-- one quorum more
pub filter_next : (p : List ℕ → Bool) (quorums left new : List (List ℕ)) (k : ℕ) (q : List ℕ) → slice_get quorums k ≡ Some q
    → k < length quorums → left ≡ filter p (take k quorums) → new ≡ left ++ filter p (q ∷ []) → new ≡ filter p (take (k + 1) quorums)
filter_next p quorums left new k q at lt so_far is =
    let here : get_or quorums k [] ≡ q = get_or_from_slice_get quorums k q [] at in
    is ∙ ap (λ t. t ++ filter p (q ∷ [])) so_far ∙ ap (λ x. filter p (take k quorums) ++ filter p (x ∷ [])) (sym here)
    ∙ sym (filter-append p (take k quorums) (get_or quorums k [] ∷ [])) ∙ ap (filter p) (sym (take_more quorums k [] lt))
