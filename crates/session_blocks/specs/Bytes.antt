-- The leases, the votes, the stamps, the claims and the calls that C sees: their numbers as bytes.
use Rattle.std.specs.Prelude.{ℕ, ◌≡◌, List}
use Rattle.words.specs.WordBytes.{FitIn64Bits, bytes_of}
use Rattle.claims.specs.Claims as claims
use Rattle.claims.specs.declared.claim.Claim.{Claim}
use Rattle.callers.specs.Calls as calls
use Rattle.callers.specs.declared.calls.Calls.{Calls}
use Rattle.own_stamps.specs.Stamps.{words_of}
use Rattle.own_stamps.specs.declared.stamps.OwnStamps.{OwnStamps}
use Rattle.vote_leases.specs.Saved.{lease_words, vote_words}
use Rattle.vote_leases.specs.declared.lease.VoterLease.{VoterLease}
use Rattle.vote_leases.specs.declared.vote.Vote.{Vote}

-- the bytes are those of this lease: each of its numbers fits in 64 bits
pub record IsLease (bytes : List ℕ) (lease : VoterLease) : Type 0 where
  pub fit : FitIn64Bits (lease_words lease)
  pub bytes_are : bytes ≡ bytes_of (lease_words lease)

-- the bytes are those of no lease
abbrev pub IsNoLease : List ℕ → Type 0
IsNoLease bytes = (lease : VoterLease) → IsLease bytes lease → ⊥

-- the bytes are those of this vote: each of its numbers fits in 64 bits
pub record IsVote (bytes : List ℕ) (vote : Vote) : Type 0 where
  pub fit : FitIn64Bits (vote_words vote)
  pub bytes_are : bytes ≡ bytes_of (vote_words vote)

-- the bytes are those of no vote
abbrev pub IsNoVote : List ℕ → Type 0
IsNoVote bytes = (vote : Vote) → IsVote bytes vote → ⊥

-- the bytes are those of these stamps: each of their numbers fits in 64 bits
pub record AreStamps (bytes : List ℕ) (stamps : OwnStamps) : Type 0 where
  pub fit : FitIn64Bits (words_of stamps)
  pub bytes_are : bytes ≡ bytes_of (words_of stamps)

-- the bytes are those of no stamps
abbrev pub AreNoStamps : List ℕ → Type 0
AreNoStamps bytes = (stamps : OwnStamps) → AreStamps bytes stamps → ⊥

-- the bytes are those of this claim: each of its numbers fits in 64 bits
pub record IsClaim (bytes : List ℕ) (claim : Claim) : Type 0 where
  pub fit : FitIn64Bits (claims.words_of claim)
  pub bytes_are : bytes ≡ bytes_of (claims.words_of claim)

-- the bytes are those of no claim
abbrev pub IsNoClaim : List ℕ → Type 0
IsNoClaim bytes = (claim : Claim) → IsClaim bytes claim → ⊥

-- the bytes are those of these calls: each of their numbers fits in 64 bits
pub record AreCalls (bytes : List ℕ) (those : Calls) : Type 0 where
  pub fit : FitIn64Bits (calls.words_of those)
  pub bytes_are : bytes ≡ bytes_of (calls.words_of those)

-- the bytes are those of no calls
abbrev pub AreNoCalls : List ℕ → Type 0
AreNoCalls bytes = (those : Calls) → AreCalls bytes those → ⊥
