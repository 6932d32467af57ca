-- Lists of sets of voters. Any two of the sets have a common member (Garcia-Molina and Barbara,
-- JACM 32(4), 1985, section 2). One may lie within another.
use Rattle.std.specs.Prelude.{◌≡◌, ℕ, ◌<◌, List, [], length, true, slice_index_or}
use Rattle.numbers.specs.Sets.{has}

-- some voter is a member of both
abbrev pub Meet : ℕ → List ℕ → List ℕ → Type 0
Meet voters p q = (v : ℕ) × (v < voters) × (has p v ≡ true) × (has q v ≡ true)

-- any two of the quorums meet, and each meets itself
abbrev pub AllMeet : ℕ → List (List ℕ) → Type 0
AllMeet voters quorums =
    (j k : ℕ) → j < length quorums → k < length quorums
    → Meet voters (slice_index_or quorums j []) (slice_index_or quorums k [])
