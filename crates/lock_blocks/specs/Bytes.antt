-- The states that C sees: the numbers of a voter, of a client or of a guard, as bytes.
use Rattle.std.specs.Prelude.{ℕ, ◌≡◌, List, ◌∷◌, length}
use Rattle.numbers.specs.Bounds.{max_voters}
use Rattle.words.specs.WordBytes.{FitIn64Bits, bytes_of}
use Rattle.voter.specs.declared.state.VoterState.{VoterState}
use Rattle.voter.specs.Saved as voters
use Rattle.requester.specs.declared.state.ClientState.{ClientState}
use Rattle.requester.specs.Saved as clients

-- The bytes are those of this voter: each of its numbers fits in 64 bits, and it can be read again.
pub record IsVoter (bytes : List ℕ) (voter : VoterState) : Type 0 where
  pub kept : voters.IsKept voter
  pub fit : FitIn64Bits (voters.words_of voter)
  pub bytes_are : bytes ≡ bytes_of (voters.words_of voter)

-- The bytes are those of this client: each of its numbers fits in 64 bits, and it can be read again.
pub record IsClient (bytes : List ℕ) (client : ClientState) : Type 0 where
  pub kept : clients.IsKept client
  pub fit : FitIn64Bits (clients.words_of client)
  pub bytes_are : bytes ≡ bytes_of (clients.words_of client)

-- the bytes are those of these grants: a number of 64 bits for each voter
pub record AreGrants (bytes grants : List ℕ) : Type 0 where
  pub places : length grants ≡ max_voters
  pub fit : FitIn64Bits grants
  pub bytes_are : bytes ≡ bytes_of grants

-- The bytes are those of a guard: its last turn, and the highest grant of each voter that it saw, each a
-- number of 64 bits.
pub record IsGuard (bytes seen : List ℕ) (turn : ℕ) : Type 0 where
  pub places : length seen ≡ max_voters
  pub fit : FitIn64Bits (turn ∷ seen)
  pub bytes_are : bytes ≡ bytes_of (turn ∷ seen)

-- the bytes are those of no voter
abbrev pub IsNoVoter : List ℕ → Type 0
IsNoVoter bytes = (voter : VoterState) → IsVoter bytes voter → ⊥

-- the bytes are those of no client
abbrev pub IsNoClient : List ℕ → Type 0
IsNoClient bytes = (client : ClientState) → IsClient bytes client → ⊥
