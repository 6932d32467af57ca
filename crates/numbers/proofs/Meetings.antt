-- Common members of sets, and sets within one another.
use Rattle.std.proofs.Common.{◌≡◌, ℕ, true, ◌||◌, eqb, List, ◌∷◌, get_or, sym, ap, ◌∙◌}
use Rattle.std.specs.List.{All}
use Rattle.std.proofs.lemmas.Bool.{eqb-true}
use Rattle.std.proofs.lemmas.List.{get_or_default}
use Rattle.std.proofs.lemmas.List.Folds.{Any-from_list_any, list_any_at}
use Rattle.std.proofs.lemmas.List.Sums.{AllPass-from_list_all, list_all-from_AllPass}
use Rattle.std.proofs.Math.Bool.{or-true}
use Rattle.numbers.specs.Sets.{has, meet, within}
use Rattle.numbers.proofs.SetLemmas.{has-at}

-- what holds of each member holds at each place
pub All-members : (P : ℕ → Type 0) (s : List ℕ) → ((i : ℕ) → has s i ≡ true → P i) → All P s
All-members P s h k d lt = h (get_or s k d) (has-at s k (get_or s k d) lt (get_or_default s k 0 d lt))

-- a member stays one with another number in front
pub has-later : (x : ℕ) (xs : List ℕ) (i : ℕ) → has xs i ≡ true → has (x ∷ xs) i ≡ true
has-later x xs i e = ap (λ b. eqb x i || b) e ∙ or-true (eqb x i)

-- sets that meet have a common member
pub meet-common : (s t : List ℕ) → meet s t ≡ true → (i : ℕ) × (has s i ≡ true) × (has t i ≡ true)
meet-common s t e =
    let found = Any-from_list_any (has t) s e in
    (found.1, has-at s found.0 found.1 found.2 (get_or_default s found.0 0 found.1 found.2 ∙ found.3), found.4)

-- sets with a common member meet
pub meet-from : (s t : List ℕ) (i : ℕ) → has s i ≡ true → has t i ≡ true → meet s t ≡ true
meet-from s t i e f =
    let found = Any-from_list_any (λ j. eqb j i) s e in
    list_any_at (has t) s found.0 found.1 found.2 (ap (has t) (found.3 ∙ eqb-true found.1 i found.4) ∙ f)

-- a member of a set is one of each set around it
pub within-has : (s t : List ℕ) (i : ℕ) → within s t ≡ true → has s i ≡ true → has t i ≡ true
within-has s t i w e =
    let found = Any-from_list_any (λ j. eqb j i) s e in
    sym (ap (has t) (found.3 ∙ eqb-true found.1 i found.4)) ∙ AllPass-from_list_all (has t) s w found.0 found.1 found.2

-- a set is within another one if its members are members of that
pub within-from : (s t : List ℕ) → ((i : ℕ) → has s i ≡ true → has t i ≡ true) → within s t ≡ true
within-from s t each =
    list_all-from_AllPass (has t) s (λ k d lt. each (get_or s k d) (has-at s k (get_or s k d) lt (get_or_default s k 0 d lt)))
