-- how long the blocks are
use Rattle.std.proofs.Common.{◌≡◌, ℕ, ◌*◌, List, [], ◌∷◌, ◌++◌, Option, None, Some, length, ap, refl, ◌∙◌}
use Rattle.std.specs.Prelude.{suc}
use Rattle.words.proofs.WordLemmas.{length-bytes_of}
use Rattle.words.specs.WordBytes.{bytes_of}
use Rattle.claims.specs.Claims as claims
use Rattle.claims.specs.declared.claim.Claim.{Claim}
use Rattle.callers.specs.Calls as calls
use Rattle.callers.specs.declared.calls.Calls.{Calls}
use Rattle.callers.specs.declared.calls.Holder.{Holder}
use Rattle.own_stamps.specs.Stamps.{words_of}
use Rattle.own_stamps.specs.declared.stamps.OwnStamps.{OwnStamps}
use Rattle.vote_leases.specs.Saved.{lease_words, option_words, taken_words, vote_words}
use Rattle.vote_leases.specs.declared.lease.VoterLease.{VoterLease}
use Rattle.vote_leases.specs.declared.vote.Taken.{Taken}
use Rattle.vote_leases.specs.declared.vote.Vote.{Vote}
use Rattle.session_blocks.specs.Bytes.{AreCalls, AreStamps, IsClaim, IsLease, IsVote}

length-words : (bytes words : List ℕ) (n : ℕ) → bytes ≡ bytes_of words → length words ≡ n → length bytes ≡ 8 * n
length-words bytes words n is few = ap (λ (l : List ℕ). length l) is ∙ length-bytes_of words ∙ ap (λ k. 8 * k) few

length-option : (o : Option ℕ) → length (option_words o) ≡ 2
length-option None = refl
length-option (Some time) = refl

length-taken : (o : Option Taken) → length (taken_words o) ≡ 6
length-taken None = refl
length-taken (Some t) = ap (λ n. suc (suc (suc (suc n)))) (length-option t.beat)

pub length-lease : (bytes : List ℕ) (l : VoterLease) → IsLease bytes l → length bytes ≡ 40
length-lease bytes l is = length-words bytes (lease_words l) 5 is.bytes_are (ap (λ n. suc (suc (suc n))) (length-option l.beat))

pub length-vote : (bytes : List ℕ) (v : Vote) → IsVote bytes v → length bytes ≡ 72
length-vote bytes v is = length-words bytes (vote_words v) 9 is.bytes_are (ap (λ n. suc (suc (suc n))) (length-taken v.taken))

pub length-stamps : (bytes : List ℕ) (s : OwnStamps) → AreStamps bytes s → length bytes ≡ 32
length-stamps bytes s is = length-words bytes (words_of s) 4 is.bytes_are refl

length-epoch : (o : Option ℕ) (accepted base : ℕ) → length (claims.epoch_words o ++ accepted ∷ base ∷ []) ≡ 4
length-epoch None accepted base = refl
length-epoch (Some epoch) accepted base = refl

pub length-claim : (bytes : List ℕ) (c : Claim) → IsClaim bytes c → length bytes ≡ 40
length-claim bytes c is = length-words bytes (claims.words_of c) 5 is.bytes_are (ap (λ n. suc n) (length-epoch c.epoch c.accepted c.base))

length-holder : (o : Option Holder) (used is_closed : ℕ) → length (calls.holder_words o ++ used ∷ is_closed ∷ []) ≡ 5
length-holder None used is_closed = refl
length-holder (Some h) used is_closed = refl

pub length-calls : (bytes : List ℕ) (c : Calls) → AreCalls bytes c → length bytes ≡ 56
length-calls bytes c is = length-words bytes (calls.words_of c) 7 is.bytes_are (ap (λ n. suc (suc n)) (length-holder c.holder c.used (calls.bool_word c.is_closed)))
