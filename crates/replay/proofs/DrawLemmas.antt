-- Draws that name another quorum than the cycle.
use Rattle.std.proofs.Common.{◌≡◌, ℕ, ◌+◌, ◌<◌, ◌≤◌, ◌⊎◌, List, length, get_or, take, min, Option, None, Some, IfSome, MatchOption, refl, sym, ◌∙◌, inl, inr, arith}
use Rattle.std.specs.List.{All}
use Rattle.std.proofs.lemmas.Bool.{cases_lt}
use Rattle.std.proofs.lemmas.List.{take_all}
use Rattle.std.proofs.lemmas.List.Elements.{All-contains, All-more, All-same, All-weaker, Contains-get_or}
use Rattle.certificate.specs.Certificates.{Weighted}
use Rattle.run_outcome.specs.Entries.{Draw}
use Rattle.replay.specs.Records.{IsLeast, IsRight, IsWrong}

-- the draw is right, or its ticket is no lower
abbrev pub IsNoLower : Weighted → ℕ → Draw → Type 0
IsNoLower w least d = IsRight w d ⊎ (least ≤ d.1)

-- the least wrong ticket of the first draws
abbrev pub SoFar : Weighted → List Draw → ℕ → Option ℕ → Type 0
SoFar w draws i None = All (IsRight w) (take i draws)
SoFar w draws i (Some t) = IsWrong w draws t × All (IsNoLower w t) (take i draws)

pub SoFar-right : (w : Weighted) (draws : List Draw) (i : ℕ) (d : Draw) (found : Option ℕ) → i < length draws → SoFar w draws i found → IsRight w (get_or draws i d) → SoFar w draws (i + 1) found
SoFar-right w draws i d None lt so_far right = All-more (IsRight w) draws i d lt so_far right
SoFar-right w draws i d (Some t) lt so_far right = (so_far.0, All-more (IsNoLower w t) draws i d lt so_far.1 (inl right))

pub SoFar-wrong : (w : Weighted) (draws : List Draw) (i : ℕ) (d : Draw) (found : Option ℕ) (least : ℕ) → i < length draws → SoFar w draws i found → ¬ (IsRight w (get_or draws i d))
    → (found ≡ None → least ≡ (get_or draws i d).1) → IfSome found (λ t. least ≡ min t (get_or draws i d).1) → SoFar w draws (i + 1) (Some least)
SoFar-wrong w draws i d None least lt so_far wrong first lesser =
    let ticket = (get_or draws i d).1 in
    let is = first refl in (
      (get_or draws i d, Contains-get_or draws i d lt, sym is, wrong),
      All-more (IsNoLower w least) draws i d lt (All-weaker (IsRight w) (IsNoLower w least) (λ x h. inl h) (take i draws) so_far) (inr (omega arith)),
    )
SoFar-wrong w draws i d (Some t) least lt so_far wrong first lesser =
    let ticket = (get_or draws i d).1 in
    elim (cases_lt ticket t) [
      | inl less ↦
          let is : least ≡ ticket = omega arith in (
            (get_or draws i d, Contains-get_or draws i d lt, sym is, wrong),
            All-more (IsNoLower w least) draws i d lt (All-weaker (IsNoLower w t) (IsNoLower w least) (λ x h. lower x (omega arith) h) (take i draws) so_far.1) (inr (omega arith)),
          )
      | inr more ↦
          let is : least ≡ t = omega arith in (
            (so_far.0.0, so_far.0.1, so_far.0.2 ∙ sym is, so_far.0.3),
            All-more (IsNoLower w least) draws i d lt (All-weaker (IsNoLower w t) (IsNoLower w least) (λ x h. lower x (omega arith) h) (take i draws) so_far.1) (inr (omega arith)),
          )
    ]
  where
    lower : (x : Draw) → least ≤ t → IsNoLower w t x → IsNoLower w least x
    lower x le (inl right) = inl right
    lower x le (inr high) = inr (omega arith)

all_right : (w : Weighted) (draws : List Draw) (i : ℕ) → length draws ≤ i → SoFar w draws i None → All (IsRight w) draws
all_right w draws i le so_far = All-same (IsRight w) draws (take i draws) (sym (take_all i draws le)) so_far

least_is_wrong : (w : Weighted) (draws : List Draw) (i t : ℕ) → length draws ≤ i → SoFar w draws i (Some t) → IsLeast (IsWrong w draws) t
least_is_wrong w draws i t le so_far =
    let all = All-same (IsNoLower w t) draws (take i draws) (sym (take_all i draws le)) so_far.1 in (
      so_far.0,
      λ m wrong. elim (All-contains (IsNoLower w t) draws wrong.0 all wrong.1) [
        | inl right ↦ absurd (wrong.3 right)
        | inr high ↦ omega (arith, wrong.2)
      ],
    )

-- the least wrong ticket of all
pub SoFar-end : (w : Weighted) (draws : List Draw) (i : ℕ) (found : Option ℕ) → length draws ≤ i → SoFar w draws i found → MatchOption found (All (IsRight w) draws) (IsLeast (IsWrong w draws))
SoFar-end w draws i None le so_far = all_right w draws i le so_far
SoFar-end w draws i (Some t) le so_far = least_is_wrong w draws i t le so_far
