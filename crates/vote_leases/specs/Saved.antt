-- Leases and votes as numbers of 64 bits.
use Rattle.std.specs.Prelude.{ℕ, Bool, true, false, List, [], ◌∷◌, ◌++◌, Option, Some, None}
use Rattle.vote_leases.specs.declared.incarnation.Incarnation.{Incarnation}
use Rattle.vote_leases.specs.declared.lease.VoterLease.{VoterLease}
use Rattle.vote_leases.specs.declared.vote.Taken.{Taken}
use Rattle.vote_leases.specs.declared.vote.Vote.{Vote}

-- a time that may be known
abbrev pub option_words : Option ℕ → List ℕ
option_words None = 0 ∷ 0 ∷ []
option_words (Some time) = 1 ∷ time ∷ []

abbrev pub incarnation_words : Incarnation → List ℕ
incarnation_words i = i.run ∷ i.start ∷ i.lapses ∷ []

-- the numbers of a lease
abbrev pub lease_words : VoterLease → List ℕ
lease_words l = incarnation_words l.incarnation ++ option_words l.beat

abbrev pub bool_word : Bool → ℕ
bool_word false = 0
bool_word true = 1

-- a vote that may be taken
abbrev pub taken_words : Option Taken → List ℕ
taken_words None = 0 ∷ 0 ∷ 0 ∷ 0 ∷ 0 ∷ 0 ∷ []
taken_words (Some t) = 1 ∷ incarnation_words t.incarnation ++ option_words t.beat

-- the numbers of a vote
abbrev pub vote_words : Vote → List ℕ
vote_words v = v.request ∷ bool_word v.is_open ∷ v.returned ∷ taken_words v.taken
