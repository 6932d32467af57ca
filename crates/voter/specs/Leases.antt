-- A voter that lets its grant go, or comes back without its state.
use Rattle.std.specs.Prelude.{ℕ, ◌==◌, if◌then◌else◌, Option, None, Some}
use Rattle.message.specs.declared.message.ToVoter.{ToVoter}
use Rattle.message.specs.declared.message.VoterBody.TheVariants as asks
use Rattle.voter.specs.declared.state.Grant.{Grant}
use Rattle.voter.specs.declared.state.VoterState.{VoterState}
use Rattle.voter.specs.Steps.{Outcome, no_reply, start, step}

-- the RELEASE of a grant, as its client would send it
abbrev pub release_of : VoterState → Grant → ToVoter
release_of v g = record { client = g.client; voter = v.id; body = asks.Release g.stamp }

-- by who holds the vote
abbrev pub evict_held : Option Grant → VoterState → ℕ → Option Outcome
evict_held None v grant = Some (no_reply v)
evict_held (Some g) v grant = if g.grant == grant then step v (release_of v g) else Some (no_reply v)

-- The current grant is let go if it has this number, as by a RELEASE of its client. Any other number
-- does nothing. None if the vote would go on and no grant is left.
abbrev pub evict : VoterState → ℕ → Option Outcome
evict v grant = evict_held v.held v grant

-- a voter that lost its state, and gave at most this many grants before
abbrev pub reborn : ℕ → ℕ → ℕ → VoterState
reborn id above limit = record (start id limit) { granted = above }
