-- One lock of a session, as C sees it: three blocks of bytes, and the leases of all voters. And a session's stamps at all voters.
use Rattle.std.specs.Prelude.{ℕ, ◌≡◌, List, length}
use Rattle.std.specs.List.{flat_map}
use Rattle.numbers.specs.Bounds.{max_voters}
use Rattle.words.specs.WordBytes.{FitIn64Bits, bytes_of}
use Rattle.own_stamps.specs.Stamps as stamps
use Rattle.own_stamps.specs.declared.stamps.OwnStamps.{OwnStamps}
use Rattle.vote_leases.specs.Saved.{lease_words, vote_words}
use Rattle.vote_leases.specs.declared.lease.VoterLease.{VoterLease}
use Rattle.vote_leases.specs.declared.vote.Vote.{Vote}
use Rattle.client_node.specs.Locks.{IsSound, Lock}
use Rattle.lock_blocks.specs.Bytes.{IsClient}
use Rattle.session_blocks.specs.Bytes.{AreCalls}

-- the numbers of these votes, one vote after the other
abbrev pub votes_words : List Vote → List ℕ
votes_words votes = flat_map vote_words votes

-- the bytes are those of these votes, one of each voter: each of their numbers fits in 64 bits
pub record AreVotes (bytes : List ℕ) (votes : List Vote) : Type 0 where
  pub places : length votes ≡ max_voters
  pub fit : FitIn64Bits (votes_words votes)
  pub bytes_are : bytes ≡ bytes_of (votes_words votes)

-- the bytes are those of no votes
abbrev pub AreNoVotes : List ℕ → Type 0
AreNoVotes bytes = (votes : List Vote) → AreVotes bytes votes → ⊥

-- the numbers of these leases, one lease after the other
abbrev pub leases_words : List VoterLease → List ℕ
leases_words leases = flat_map lease_words leases

-- the bytes are those of these leases, one of each voter: each of their numbers fits in 64 bits
pub record AreLeases (bytes : List ℕ) (leases : List VoterLease) : Type 0 where
  pub places : length leases ≡ max_voters
  pub fit : FitIn64Bits (leases_words leases)
  pub bytes_are : bytes ≡ bytes_of (leases_words leases)

-- the bytes are those of no leases
abbrev pub AreNoLeases : List ℕ → Type 0
AreNoLeases bytes = (leases : List VoterLease) → AreLeases bytes leases → ⊥

-- the numbers of these stamps, those at one voter after those at the other
abbrev pub stamps_words : List OwnStamps → List ℕ
stamps_words kept = flat_map stamps.words_of kept

-- the bytes are those of these stamps, of each voter: each of their numbers fits in 64 bits
pub record AreAllStamps (bytes : List ℕ) (kept : List OwnStamps) : Type 0 where
  pub places : length kept ≡ max_voters
  pub fit : FitIn64Bits (stamps_words kept)
  pub bytes_are : bytes ≡ bytes_of (stamps_words kept)

-- the bytes are those of no stamps at all voters
abbrev pub AreNotAllStamps : List ℕ → Type 0
AreNotAllStamps bytes = (kept : List OwnStamps) → AreAllStamps bytes kept → ⊥

-- The blocks are those of this lock. If a call has it, the client is inside by the request under which the call has it.
pub record IsLock (client votes calls : List ℕ) (lock : Lock) : Type 0 where
  pub is_client : IsClient client lock.client
  pub are_votes : AreVotes votes lock.votes
  pub are_calls : AreCalls calls lock.calls
  pub sound : IsSound lock

-- the blocks are those of no lock
abbrev pub IsNoLock : (client votes calls : List ℕ) → Type 0
IsNoLock client votes calls = (lock : Lock) → IsLock client votes calls lock → ⊥
