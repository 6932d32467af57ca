-- Worlds in which a voter may let a grant go while its client holds it, voters and clients come back
-- without their states, and voters take messages that nobody sent.
use Rattle.std.specs.Prelude.{ℕ, ◌&&◌, nat_le, nat_lt, Bool, true, false, List, [], ◌∷◌, length, slice_set}
use Rattle.message.specs.declared.message.ToVoter.{ToVoter}
use Rattle.message.specs.declared.message.VoterBody.{VoterBody}
use Rattle.message.specs.declared.message.VoterBody.TheVariants as asks
use Rattle.voter.specs.declared.state.VoterState.{VoterState}
use Rattle.voter.specs.Steps as voter
use Rattle.requester.specs.declared.state.ClientState.{ClientState}
use Rattle.requester.specs.Steps as client
use Rattle.world.specs.Restarts.{Happening, OneVoter, Saved, come_back, happens, save_and_send}
use Rattle.world_state.specs.Steps.{Dealing, client_at, if_client, if_voter, vote, voter_at}

-- what may befall a lock, at any time
pub data Incident : Type 0 where
  -- a step of the world, a save, the loss of all but the least, or a restart
  Happens : Happening → Incident
  -- A voter takes a message, whoever made it and whether it was sent or not. So a voter may let its
  -- grant go: this is the RELEASE of the grant, in its client's name.
  Hears : ToVoter → Incident
  -- A voter lost its state and comes back without it. It gave at most this many grants before: voter,
  -- count.
  IsReborn : ℕ → ℕ → Incident
  -- A client comes back without its state, and knows no more than a clock: client, clock.
  StartsAnew : ℕ → ℕ → Incident
  -- A voter may give grants up to another number, no less than it gave: voter, limit. So a voter has a
  -- block of grants, and later the next one.
  HasLimit : ℕ → ℕ → Incident
  -- a client raises its clock to a stamp: client, stamp
  IsRaised : ℕ → ℕ → Incident
  -- A voter skips the numbers up to this one, which is within its limit, and keeps its grant: voter, number.
  IsSkipped : ℕ → ℕ → Incident

-- the stamp of a REQUEST is from 1 to the limit
abbrev pub is_request_within : ℕ → VoterBody → Bool
is_request_within limit (asks.Request stamp) = nat_le 1 stamp && nat_le stamp limit
is_request_within limit (asks.Relinquish grant) = true
is_request_within limit (asks.Release stamp) = true

-- the message names a client of this world, and the stamp of a REQUEST is from 1 to this client's limit
abbrev pub is_message : Saved → ToVoter → Bool
is_message s m = nat_lt m.client (length s.live.clients) && is_request_within (client_at s.live.clients m.client).limit m.body

-- A voter of this world takes a message, and saves before it sends. If it may not, nothing happens.
abbrev pub hear : Saved → ToVoter → Saved
hear s m = save_and_send s (OneVoter m.voter)
    (if_voter (nat_lt m.voter (length s.live.voters)) m.voter (if_client (is_message s m) m.client (vote s.live m)))

-- a voter that remembers how many grants it gave, or that it gave no more than these
abbrev pub reborn : VoterState → ℕ → VoterState
reborn y above = record (voter.start y.id y.limit) { granted = above }

-- the voter has this state, live and saved
abbrev pub come_back_as : Saved → ℕ → VoterState → Saved
come_back_as s v y = record s {
  live = record s.live { voters = slice_set s.live.voters v y };
  voters = slice_set s.voters v y;
}

-- the voter is reborn, if it gave no more than these grants, and they are within its limit
abbrev pub be_reborn : Bool → Saved → ℕ → ℕ → Saved
be_reborn true s v above = come_back_as s v (reborn (voter_at s.live.voters v) above)
be_reborn false s v above = s

-- a client that knows no more than a clock: it takes this for its last stamp, too
abbrev pub anew : ClientState → ℕ → ClientState
anew x clock = record (client.start x.id x.limit) { clock = clock; stamp = clock }

-- the client has this state, live and saved; if it was inside, it has left
abbrev pub start_as : Saved → ℕ → ClientState → Saved
start_as s c x = come_back (record s { clients = slice_set s.clients c x }) c x

-- the client starts anew, if it never used a greater stamp, and the clock is within its limit
abbrev pub start_anew : Bool → Saved → ℕ → ℕ → Saved
start_anew true s c clock = start_as s c (anew (client_at s.live.clients c) clock)
start_anew false s c clock = s

-- no grant of this voter has a greater number, and its limit is no smaller
abbrev pub is_above : VoterState → ℕ → Bool
is_above y above = nat_le y.granted above && nat_le above y.limit

-- no stamp of this client is greater, and its limit is no smaller
abbrev pub is_ahead : ClientState → ℕ → Bool
is_ahead x clock = nat_le x.stamp clock && nat_le clock x.limit

-- a voter that may give grants up to this number
abbrev pub limited : VoterState → ℕ → VoterState
limited y limit = record y { limit = limit }

-- the voter gave no more grants, and may give no more than the stamps that clients may use
abbrev pub is_limit : Saved → ℕ → ℕ → Bool
is_limit s v limit = nat_lt 0 (length s.live.clients)
    && (nat_le (voter_at s.live.voters v).granted limit && nat_le limit (client_at s.live.clients 0).limit)

-- the voter has this limit
abbrev pub have_limit : Bool → Saved → ℕ → ℕ → Saved
have_limit true s v limit = record s { live = record s.live { voters = slice_set s.live.voters v (limited (voter_at s.live.voters v) limit) } }
have_limit false s v limit = s

-- a voter that skips the numbers up to this one
abbrev pub skipped : VoterState → ℕ → VoterState
skipped y above = record y { granted = above }

-- the voter skips numbers, if it gave none above
abbrev pub be_skipped : Bool → Saved → ℕ → ℕ → Saved
be_skipped true s v above = record s { live = record s.live { voters = slice_set s.live.voters v (skipped (voter_at s.live.voters v) above) } }
be_skipped false s v above = s

-- the client's clock is raised, if it is behind
abbrev pub be_raised : Bool → Saved → ℕ → ℕ → Saved
be_raised true s c clock = record s { live = record s.live { clients = slice_set s.live.clients c (client.see (client_at s.live.clients c) clock) } }
be_raised false s c clock = s

-- the world after one of these; where a condition fails, nothing happens
abbrev pub befalls : Dealing → Saved → Incident → Saved
befalls deal s (Happens h) = happens deal s h
befalls deal s (Hears m) = hear s m
befalls deal s (IsReborn v above) = be_reborn (nat_lt v (length s.live.voters) && is_above (voter_at s.live.voters v) above) s v above
befalls deal s (StartsAnew c clock) = start_anew (nat_lt c (length s.live.clients) && is_ahead (client_at s.live.clients c) clock) s c clock
befalls deal s (HasLimit v limit) = have_limit (nat_lt v (length s.live.voters) && is_limit s v limit) s v limit
befalls deal s (IsRaised c clock) = be_raised (nat_lt c (length s.live.clients)) s c clock
befalls deal s (IsSkipped v above) = be_skipped (nat_lt v (length s.live.voters) && is_above (voter_at s.live.voters v) above) s v above

-- the world after all of these, in order
abbrev pub all_befall : Dealing → List Incident → Saved → Saved
all_befall deal [] s = s
all_befall deal (i ∷ is) s = all_befall deal is (befalls deal s i)
