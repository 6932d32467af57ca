-- What the calls of a voter return and write. Each is said for the one voter that the bytes are, and
-- for the one message that the line is. That a refused call writes nothing is a clause of each call.
use Rattle.std.specs.Prelude.{ℕ, ℤ, pos, ◌≡◌, ◌≤◌, List, Option, None, Some, slice_index, unwrap_or}
use Rattle.numbers.specs.Bounds.{max_limit}
use Rattle.message.specs.declared.message.ToVoter.{ToVoter}
use Rattle.voter.specs.declared.state.Grant.{Grant}
use Rattle.voter.specs.declared.state.VoterState.{VoterState}
use Rattle.voter.specs.Leases.{evict}
use Rattle.voter.specs.Saved.{least_voter}
use Rattle.voter.specs.Steps.{Outcome, current_stamp, remind, step}
use Rattle.voter_node.specs.LeftOut.{HaveSameLeast}
use Rattle.lock_blocks.specs.Bytes.{IsNoVoter, IsVoter}
use Rattle.lock_blocks.specs.Lines.{IsToVoter, Sends, lines_to_clients}
use Rattle.blocks.specs.Numbers.{done, refused}
use Rattle.blocks.specs.declared.refusal.Refusal.TheVariants.{BadArgument, BadMessage, BadState, GrantsSpent}

-- by what the voter's own step gives: a refusal, or replies and the voter afterwards
abbrev pub GoesOn : Option Outcome → (after out out_after : List ℕ) → ℕ → ℤ → Type 0
GoesOn None after out out_after written result = result ≡ refused GrantsSpent
GoesOn (Some o) after out out_after written result =
    Sends (lines_to_clients o.replies) out out_after written result (IsVoter after o.state)

-- a voter takes a line
pub record VoterTakes (before line after out out_after : List ℕ) (written : ℕ) (result : ℤ) : Type 0 where
  pub no_voter : IsNoVoter before → result ≡ refused BadState
  pub no_message : (voter : VoterState) → IsVoter before voter → ((m : ToVoter) → IsToVoter line voter.id m → ⊥)
      → result ≡ refused BadMessage
  pub takes : (voter : VoterState) (m : ToVoter) → IsVoter before voter → IsToVoter line voter.id m
      → GoesOn (step voter m) after out out_after written result

-- a voter reminds
pub record VoterReminds (state out out_after : List ℕ) (written : ℕ) (result : ℤ) : Type 0 where
  pub no_voter : IsNoVoter state → result ≡ refused BadState
  pub reminds : (voter : VoterState) → IsVoter state voter
      → Sends (lines_to_clients (remind voter)) out out_after written result (Unit {0})

-- who holds the vote, in three numbers; three times 0 if the vote is free
abbrev pub IsHeldBy : Option Grant → (client stamp grant : ℕ) → Type 0
IsHeldBy None client stamp grant = (client ≡ 0) × (stamp ≡ 0) × (grant ≡ 0)
IsHeldBy (Some g) client stamp grant = (client ≡ g.client) × (stamp ≡ g.stamp) × (grant ≡ g.grant)

-- a voter shows who holds its vote
pub record VoterShowsHolder (state : List ℕ) (client stamp grant : ℕ) (result : ℤ) : Type 0 where
  pub no_voter : IsNoVoter state → result ≡ refused BadState
  pub shows : (voter : VoterState) → IsVoter state voter → (result ≡ done) × IsHeldBy voter.held client stamp grant

-- a voter lets the grant with this number go
pub record VoterEvicts (before : List ℕ) (grant : ℕ) (after out out_after : List ℕ) (written : ℕ) (result : ℤ) : Type 0 where
  pub no_voter : IsNoVoter before → result ≡ refused BadState
  pub evicts : (voter : VoterState) → IsVoter before voter → GoesOn (evict voter grant) after out out_after written result

-- a voter may give more grants
pub record VoterExtends (before : List ℕ) (limit : ℕ) (after : List ℕ) (result : ℤ) : Type 0 where
  pub no_voter : IsNoVoter before → result ≡ refused BadState
  pub bad_argument : (voter : VoterState) → IsVoter before voter → (voter.limit ≤ limit → limit ≤ max_limit → ⊥)
      → result ≡ refused BadArgument
  pub extends : (voter : VoterState) → IsVoter before voter → voter.limit ≤ limit → limit ≤ max_limit
      → (result ≡ done) × IsVoter after (record voter { limit = limit })

-- a voter skips the numbers up to this one, and keeps its grant
pub record VoterRaises (before : List ℕ) (above : ℕ) (after : List ℕ) (result : ℤ) : Type 0 where
  pub no_voter : IsNoVoter before → result ≡ refused BadState
  pub bad_argument : (voter : VoterState) → IsVoter before voter → (voter.granted ≤ above → above ≤ voter.limit → ⊥)
      → result ≡ refused BadArgument
  pub raises : (voter : VoterState) → IsVoter before voter → voter.granted ≤ above → above ≤ voter.limit
      → (result ≡ done) × IsVoter after (record voter { granted = above })

-- a voter shows what it knows of a client: the stamp that has the vote or waits, 0 for none, the highest
-- stamp that is finished, and the highest stamp that it saw of anybody
pub record VoterShowsClient (state : List ℕ) (client stamp finished seen : ℕ) (result : ℤ) : Type 0 where
  pub no_voter : IsNoVoter state → result ≡ refused BadState
  pub shows : (voter : VoterState) → IsVoter state voter → (result ≡ done)
      × (stamp ≡ unwrap_or (current_stamp voter client) 0) × (finished ≡ slice_index voter.finished client) × (seen ≡ voter.seen)

-- a voter forgets all but the least
pub record VoterForgets (before after : List ℕ) (result : ℤ) : Type 0 where
  pub no_voter : IsNoVoter before → result ≡ refused BadState
  pub forgets : (voter : VoterState) → IsVoter before voter → (result ≡ done) × IsVoter after (least_voter voter)

-- whether a voter has to be saved that was saved as the first bytes and is now the second: 1 if what has
-- to survive of it changed, and 0 if not
pub record VoterMustSave (saved live : List ℕ) (yes result : ℤ) : Type 0 where
  pub none_saved : IsNoVoter saved → result ≡ refused BadState
  pub none_live : IsNoVoter live → result ≡ refused BadState
  pub must : (v w : VoterState) → IsVoter saved v → IsVoter live w → (HaveSameLeast v w → ⊥) → (result ≡ done) × (yes ≡ pos 1)
  pub need_not : (v w : VoterState) → IsVoter saved v → IsVoter live w → HaveSameLeast v w → (result ≡ done) × (yes ≡ pos 0)
