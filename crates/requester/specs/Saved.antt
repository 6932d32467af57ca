-- A client as 138 numbers of 64 bits, to be saved and restored, and the least of it that has to
-- survive a crash.
use Rattle.std.specs.Prelude.{ℕ, nat_le, nat_lt, Bool, ◌&&◌, ◌||◌, not, List, [], ◌∷◌, ◌++◌, length}
use Rattle.numbers.specs.Bounds.{max_limit}
use Rattle.numbers.specs.Sets.{IsSet}
use Rattle.quorum_set.specs.Words.{word_of}
use Rattle.requester.specs.declared.state.ClientState.{ClientState}
use Rattle.requester.specs.declared.state.Phase.{Phase}
use Rattle.requester.specs.declared.state.Phase.TheVariants.{Idle, Asking, Inside}
use Rattle.requester.specs.Soundness.{IsSound}
use Rattle.requester.specs.Steps.{start}
use Rattle.requester.specs.Words.{held_of, holds, is_idle, is_inquired, is_member, is_relinquished, last_of, members}

-- The first number: what follows is a client, in version 1. Its bytes are "qclient" and 1.
abbrev pub header : ℕ
header = 104830073175827313

-- a phase as a number
abbrev pub phase_word : Phase → ℕ
phase_word Idle = 0
phase_word Asking = 1
phase_word Inside = 2

-- the quorum and the three sets of marked voters, each as the bits of a number
abbrev pub set_words : ClientState → List ℕ
set_words x = word_of (members x) ∷ word_of x.failed ∷ word_of x.relinquished ∷ word_of x.inquired ∷ []

-- the first ten numbers: header, number, limit, clock, phase, stamp, and the sets
abbrev pub head_words : ClientState → List ℕ
head_words x = header ∷ x.id ∷ x.limit ∷ x.clock ∷ phase_word x.phase ∷ x.stamp ∷ set_words x

-- the numbers of a client: the first ten, the held grants, and the last grants given back
unfoldable pub words_of : ClientState → List ℕ
words_of x = head_words x ++ (x.held ++ x.last)

-- the voters that are marked are sets
pub record HasSets (x : ClientState) : Type 0 where
  pub failed : IsSet x.failed
  pub relinquished : IsSet x.relinquished
  pub inquired : IsSet x.inquired

-- a client that can be saved and restored: it is sound, and the voters that it marks are sets
pub record IsKept (x : ClientState) : Type 0 where
  pub sound : IsSound x
  pub sets : HasSets x

-- The least of a client: its clock and its last stamp. It is idle. Its number and its limit stay the
-- same.
abbrev pub least_client : ClientState → ClientState
least_client x = record (start x.id x.limit) { clock = x.clock; stamp = x.stamp }

-- What restoring checks

-- limit, stamp and clock are in order, and a request has a stamp and a quorum
abbrev pub has_sound_numbers : ClientState → Bool
has_sound_numbers x = nat_le 1 x.limit && (nat_le x.limit max_limit && (nat_le x.stamp x.limit && (nat_le x.stamp x.clock
    && (is_idle x.phase || (nat_lt 0 x.stamp && nat_lt 0 (length (members x)))))))

-- a held vote is that of a member while a request runs, and newer than the last one given back
abbrev pub is_held_well : ClientState → ℕ → Bool
is_held_well x voter =
    not (holds x voter) || (not (is_idle x.phase) && (is_member x voter && nat_lt (last_of x voter) (held_of x voter)))

-- the vote is held well; a voter that asked for its vote has its vote held; one that got it back has
-- a last grant
abbrev pub is_vote_sound : ClientState → ℕ → Bool
is_vote_sound x voter = is_held_well x voter
    && ((not (is_inquired x voter) || holds x voter) && (not (is_relinquished x voter) || nat_lt 0 (last_of x voter)))
