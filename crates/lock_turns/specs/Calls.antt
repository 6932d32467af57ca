-- What the bytes of a lock at a voter are in the law on who works, and what a call writes of what the voter says.
use Rattle.std.specs.Prelude.{ℕ, ◌≡◌, ◌≤◌, Bool, List, Option, Some}
use Rattle.blocks.specs.Tables.{row_or_none}
use Rattle.lock_blocks.specs.Bytes.{IsVoter}
use Rattle.lock_blocks.specs.Lines.{Writes, lines_to_clients}
use Rattle.lock_node.specs.Letters.{heard}
use Rattle.message.specs.declared.message.ToClient.{ToClient}
use Rattle.quiet_time.specs.declared.since_start.SinceStart.{SinceStart}
use Rattle.sessions.specs.Rows.{Row}
use Rattle.voter.specs.declared.state.Grant.{Grant}
use Rattle.voter.specs.declared.state.VoterState.{VoterState}
use Rattle.voter.specs.Steps.{IsSound}
use Rattle.working_votes.specs.Turns.{Place}

-- the voter of a lock, by its vote, what was said of it since the voter's start, and whether the voter is quiet
abbrev pub place_of : VoterState → SinceStart → Bool → Place
place_of vote since quiet = record { lock = record { vote = vote; since = since }; is_quiet = quiet }

-- these bytes, and what was said since, are the lock of this voter
abbrev pub AreOf : List ℕ → SinceStart → Place → Type 0
AreOf bytes since p = IsVoter bytes p.lock.vote × (since ≡ p.lock.since)

-- what is written are the lines of what somebody hears of these replies, once the voter is this one
abbrev pub Tells : (ℕ → Option Row) → Place → List ToClient → (out out_after : List ℕ) → ℕ → Type 0
Tells rows p replies out out_after written = Writes (lines_to_clients (heard (row_or_none rows) p.lock.vote.held replies)) out out_after written

-- the voter is sound, and gave at least as many grants as before its start
pub record IsSoundSince (vote : VoterState) (since : SinceStart) : Type 0 where
  pub sound : IsSound vote
  pub begun : since.begun ≤ vote.granted
