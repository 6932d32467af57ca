-- How long the states are.
use Rattle.std.proofs.Common.{◌≡◌, ℕ, ◌*◌, ◌∷◌, List, length, ap, ◌∙◌, arith}
use Rattle.voter.specs.declared.state.VoterState.{VoterState}
use Rattle.voter.specs.Saved as voters
use Rattle.voter.proofs.SavedLemmas as voter_lemmas
use Rattle.requester.specs.declared.state.ClientState.{ClientState}
use Rattle.requester.specs.Saved as clients
use Rattle.requester.proofs.SavedLemmas as client_lemmas
use Rattle.words.proofs.WordLemmas.{length-bytes_of}
use Rattle.words.specs.WordBytes.{bytes_of}
use Rattle.lock_blocks.specs.Bytes.{AreGrants, IsClient, IsGuard, IsVoter}

length-words : (bytes words : List ℕ) (n : ℕ) → bytes ≡ bytes_of words → length words ≡ n → length bytes ≡ 8 * n
length-words bytes words n is few = ap (λ (l : List ℕ). length l) is ∙ length-bytes_of words ∙ ap (λ k. 8 * k) few

pub length-voter : (bytes : List ℕ) (v : VoterState) → IsVoter bytes v → length bytes ≡ 1104
length-voter bytes v is = length-words bytes (voters.words_of v) 138 is.bytes_are (voter_lemmas.length-words_of v is.kept)

pub length-client : (bytes : List ℕ) (x : ClientState) → IsClient bytes x → length bytes ≡ 1104
length-client bytes x is = length-words bytes (clients.words_of x) 138 is.bytes_are (client_lemmas.length-words_of x is.kept)

pub length_grants : (bytes grants : List ℕ) → AreGrants bytes grants → length bytes ≡ 512
length_grants bytes grants is = length-words bytes grants 64 is.bytes_are is.places

pub length_guard : (bytes seen : List ℕ) (turn : ℕ) → IsGuard bytes seen turn → length bytes ≡ 520
length_guard bytes seen turn is = length-words bytes (turn ∷ seen) 65 is.bytes_are (let few = is.places in omega arith)
