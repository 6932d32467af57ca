-- Members of sets, and that any two quorums of a coterie meet.
use Rattle.std.proofs.Common.{◌≡◌, ℕ, ◌<◌, ◌≤◌, true, List, [], ◌∷◌, length, subst, arith}
use Rattle.std.specs.Prelude.{slice_index_or}
use native.Mathlib.Decide.{ℕ_discrete, dec_le}
use Rattle.numbers.specs.Sets.{has}
use Rattle.quorum_set.specs.Coteries.{QuorumSystem, IsCoterie}
use Rattle.numbers.proofs.Meetings.{meet-common}
use Rattle.numbers.proofs.Members.{All-has}
use Rattle.numbers.proofs.SetLemmas.{has-head}
use Rattle.quorum_set.specs.Meetings.{Meet, AllMeet}

-- a set with a member meets itself
has-some : (p : List ℕ) → 0 < length p → (v : ℕ) × (has p v ≡ true) × (has p v ≡ true)
has-some [] some_member = absurd (omega arith)
has-some (x ∷ xs) some_member = (x, has-head x xs, has-head x xs)

pub AllMeet-coterie : (s : QuorumSystem) → IsCoterie s → AllMeet s.voters s.quorums
AllMeet-coterie s c j k lt lt' = within (shared (ℕ_discrete j k) (dec_le k j))
  where
    p : List ℕ
    p = slice_index_or s.quorums j []

    q : List ℕ
    q = slice_index_or s.quorums k []

    within : ((v : ℕ) × (has p v ≡ true) × (has q v ≡ true)) → Meet s.voters p q
    within x = (x.0, All-has (λ (i : ℕ). i < s.voters) p x.0 x.1 (c.in_range j [] lt), x.1, x.2)

    shared : Dec (j ≡ k) → Dec (k ≤ j) → (v : ℕ) × (has p v ≡ true) × (has q v ≡ true)
    shared (yes same) _ = subst (λ (i : ℕ). (v : ℕ) × (has p v ≡ true) × (has (slice_index_or s.quorums i []) v ≡ true)) same (has-some p (c.not_empty j [] lt))
    shared (no apart) (yes after) = let x = meet-common q p (c.meets k j [] (omega arith) lt) in (x.0, x.2, x.1)
    shared (no apart) (no before) = meet-common p q (c.meets j k [] (omega arith) lt')
