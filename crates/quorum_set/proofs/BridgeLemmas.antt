-- Lemmas on bridges: the first pair that is apart, and that the quorums of both coteries meet.
use Rattle.std.proofs.Common.{◌≡◌, ℕ, ◌+◌, ◌<◌, ◌≤◌, ◌⊎◌, true, false, List, [], ◌∷◌, ◌++◌, length, get_or, zero, suc, sym, refl, ap, subst, ◌∙◌, inl, inr, arith, Option, None, Some}
use Rattle.std.proofs.lemmas.Bool.{cases_lt, true≢false, not-false, not-true, not_from_true}
use Rattle.std.proofs.lemmas.List.Elements.{All-nil, All-cons, All-head, All-tail}
use Rattle.std.proofs.lemmas.List.Quantifiers.{position-Some}
use Rattle.std.specs.List.{All, position}
use Rattle.std.specs.Option.{option_or, option_map}
use Rattle.numbers.specs.Sets.{has, meet}
use Rattle.numbers.proofs.Members.{All-has}
use Rattle.quorum_set.specs.Coteries.{are_disjoint}
use Rattle.quorum_set.specs.Meetings.{Meet, AllMeet}
use Rattle.quorum_set.specs.Bridges.{Bridged, IsBridge, AreBridged, first_apart, IsLeastApart}
use Rattle.quorum_set.proofs.FaultLaws.{position-nil, some_parts}
use Rattle.numbers.proofs.Meetings.{meet-common}
use Rattle.numbers.proofs.Options.{option_map-None, option_or-None, position-None}
use Rattle.quorum_set.proofs.Meetings.{AllMeet-coterie}

-- no pair apart: all meet
pub first_apart-None : (j : ℕ) (firsts seconds : List (List ℕ)) → first_apart j firsts seconds ≡ None → AreBridged firsts seconds
first_apart-None j [] seconds e = All-nil (λ q. All (λ r. meet q r ≡ true) seconds)
first_apart-None j (s ∷ sets) seconds e =
    let both = option_or-None _ _ e in
    let none = position-None (are_disjoint s) seconds (option_map-None _ _ both.0) in
    All-cons (λ q. All (λ r. meet q r ≡ true) seconds) s sets (λ k d lt. not-false _ (none k d lt))
    (first_apart-None (j + 1) sets seconds both.1)

-- all meet: no pair apart
pub first_apart-bridged : (j : ℕ) (firsts seconds : List (List ℕ)) → AreBridged firsts seconds → first_apart j firsts seconds ≡ None
first_apart-bridged j [] seconds all = refl
first_apart-bridged j (s ∷ sets) seconds all =
    ap (λ o. option_or (option_map (λ k. (j, k)) o) (first_apart (j + 1) sets seconds))
    (position-nil (are_disjoint s) seconds (λ k d lt. not_from_true _ (All-head (λ q. All (λ r. meet q r ≡ true) seconds) s sets all k d lt)))
    ∙ first_apart-bridged (j + 1) sets seconds (All-tail (λ q. All (λ r. meet q r ≡ true) seconds) s sets all)

-- with the places in the first list counted from d on
abbrev LeastFrom : ℕ → List (List ℕ) → List (List ℕ) → ℕ × ℕ → Type 0
LeastFrom d firsts seconds p = (j : ℕ) × (p.0 ≡ d + j) × IsLeastApart firsts seconds j p.1

-- one set before the others, which meets each of the second list
none_apart : (s : List ℕ) (sets seconds : List (List ℕ)) (j k : ℕ) → All (λ r. are_disjoint s r ≡ false) seconds
    → IsLeastApart sets seconds j k → IsLeastApart (s ∷ sets) seconds (suc j) k
none_apart s sets seconds j k all least = (omega (arith, least.0), least.1, least.2, below)
  where
    below : (a b : ℕ) → a < length (s ∷ sets) → b < length seconds → meet (get_or (s ∷ sets) a []) (get_or seconds b []) ≡ false
        → (suc j < a) ⊎ ((suc j ≡ a) × (k ≤ b))
    below zero b la lb apart = absurd (true≢false (sym (not-false _ (all b [] lb)) ∙ apart))
    below (suc a) b la lb apart =
        elim (least.3 a b (omega (arith, la)) lb apart) [
          | inl before ↦ inl (omega arith)
          | inr same ↦ inr (ap suc same.0, same.1)
        ]

-- one set before the others, which does not meet the one at k
one_apart : (s : List ℕ) (sets seconds : List (List ℕ)) (k : ℕ) → k < length seconds → are_disjoint s (get_or seconds k []) ≡ true
    → ((b : ℕ) → b < k → are_disjoint s (get_or seconds b []) ≡ false) → IsLeastApart (s ∷ sets) seconds 0 k
one_apart s sets seconds k lt is before = (omega arith, lt, not-true _ is, first)
  where
    first : (a b : ℕ) → a < length (s ∷ sets) → b < length seconds → meet (get_or (s ∷ sets) a []) (get_or seconds b []) ≡ false
        → (0 < a) ⊎ ((0 ≡ a) × (k ≤ b))
    first zero b la lb apart =
        elim (cases_lt b k) [
          | inl early ↦ absurd (true≢false (sym (not-false _ (before b early)) ∙ apart))
          | inr late ↦ inr (refl, late)
        ]
    first (suc a) b la lb apart = inl (omega arith)

least_step : (d : ℕ) (s : List ℕ) (sets seconds : List (List ℕ)) (p : ℕ × ℕ) (o : Option ℕ) → position (are_disjoint s) seconds ≡ o
    → (first_apart (d + 1) sets seconds ≡ Some p → LeastFrom (d + 1) sets seconds p)
    → option_or (option_map (λ k. (d, k)) o) (first_apart (d + 1) sets seconds) ≡ Some p → LeastFrom d (s ∷ sets) seconds p
least_step d s sets seconds p None none later h =
    let found = later h in
    (suc found.0, omega (arith, found.1), none_apart s sets seconds found.0 p.1 (position-None (are_disjoint s) seconds none) found.2)
least_step d s sets seconds p (Some i) at later h =
    let found = position-Some (are_disjoint s) seconds i [] at in
    let parts = some_parts d i p h in
    (0, omega (arith, parts.0), subst (λ n. IsLeastApart (s ∷ sets) seconds 0 n) (sym parts.1) (one_apart s sets seconds i found.0 found.1 found.2))

least_from : (d : ℕ) (firsts seconds : List (List ℕ)) (p : ℕ × ℕ) → first_apart d firsts seconds ≡ Some p → LeastFrom d firsts seconds p
least_from d [] seconds p e = cc
least_from d (s ∷ sets) seconds p e =
    least_step d s sets seconds p (position (are_disjoint s) seconds) refl (least_from (d + 1) sets seconds p) e

-- the pair that is found is the least
pub IsLeastApart-first_apart : (firsts seconds : List (List ℕ)) (j k : ℕ) → first_apart 0 firsts seconds ≡ Some (j, k) → IsLeastApart firsts seconds j k
IsLeastApart-first_apart firsts seconds j k e =
    let found = least_from 0 firsts seconds (j, k) e in
    let at_j : found.0 ≡ j = omega (arith, found.1) in
    subst (λ n. IsLeastApart firsts seconds n k) at_j found.2

-- a place of two lists, one after the other, is a place of the first or of the second
abbrev InEither : List (List ℕ) → List (List ℕ) → ℕ → Type 0
InEither xs ys j =
    ((j < length xs) × (get_or (xs ++ ys) j [] ≡ get_or xs j []))
    ⊎ ((i : ℕ) × (i < length ys) × (get_or (xs ++ ys) j [] ≡ get_or ys i []))

in_either : (xs ys : List (List ℕ)) (j : ℕ) → j < length (xs ++ ys) → InEither xs ys j
in_either [] ys j lt = inr (j, lt, refl)
in_either (x ∷ xs) ys zero lt = inl (omega arith, refl)
in_either (x ∷ xs) ys (suc j) lt =
    elim (in_either xs ys j (omega (arith, lt))) [
      | inl at ↦ inl (omega (arith, at.0), at.1)
      | inr at ↦ inr at
    ]

-- any two quorums of two bridged coteries meet
pub AllMeet-bridge : (b : Bridged) → IsBridge b → AllMeet b.first.voters (b.first.quorums ++ b.second.quorums)
AllMeet-bridge b is j k lj lk = of_both (in_either firsts seconds j lj) (in_either firsts seconds k lk)
  where
    firsts : List (List ℕ)
    firsts = b.first.quorums

    seconds : List (List ℕ)
    seconds = b.second.quorums

    n : ℕ
    n = b.first.voters

    at : ℕ → List ℕ
    at i = get_or (firsts ++ seconds) i []

    across : (q r : ℕ) → q < length firsts → r < length seconds → (v : ℕ) × (v < n) × (has (get_or firsts q []) v ≡ true) × (has (get_or seconds r []) v ≡ true)
    across q r lq lr =
        let x = meet-common (get_or firsts q []) (get_or seconds r []) (is.meets q [] lq r [] lr) in
        (x.0, All-has (λ (i : ℕ). i < n) (get_or firsts q []) x.0 x.1 (is.first.in_range q [] lq), x.1, x.2)

    of_both : InEither firsts seconds j → InEither firsts seconds k → Meet n (at j) (at k)
    of_both (inl left) (inl also) =
        let x = AllMeet-coterie b.first is.first j k left.0 also.0 in
        (x.0, x.1, ap (λ s. has s x.0) left.1 ∙ x.2, ap (λ s. has s x.0) also.1 ∙ x.3)
    of_both (inl left) (inr right) =
        let x = across j right.0 left.0 right.1 in
        (x.0, x.1, ap (λ s. has s x.0) left.1 ∙ x.2, ap (λ s. has s x.0) right.2 ∙ x.3)
    of_both (inr right) (inl left) =
        let x = across k right.0 left.0 right.1 in
        (x.0, x.1, ap (λ s. has s x.0) right.2 ∙ x.3, ap (λ s. has s x.0) left.1 ∙ x.2)
    of_both (inr right) (inr also) =
        let x = AllMeet-coterie b.second is.second right.0 also.0 right.1 also.1 in
        (x.0, subst (λ m. x.0 < m) (sym is.same_voters) x.1, ap (λ s. has s x.0) right.2 ∙ x.2, ap (λ s. has s x.0) also.2 ∙ x.3)
