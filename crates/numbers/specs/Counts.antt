-- Counts and greatest values over numbers.
use Rattle.std.specs.Prelude.{ℕ, ◌==◌, List, [], ◌∷◌, max, min, count_by, zero, suc}

-- the greatest value of f below n, or 0
abbrev pub greatest_below : ℕ → (ℕ → ℕ) → ℕ
greatest_below zero f = 0
greatest_below (suc n) f = max (greatest_below n f) (f n)

-- how many entries of the list are this quorum
abbrev pub times : ℕ → List ℕ → ℕ
times j list = count_by (λ k. k == j) list

-- the smallest value of f on the list; 0 if the list is empty
abbrev pub least_of : (List ℕ → ℕ) → List (List ℕ) → ℕ
least_of f [] = 0
least_of f (q ∷ []) = f q
least_of f (q ∷ r ∷ qs) = min (f q) (least_of f (r ∷ qs))
