-- The votes of the automata of all voters of a lock, in the world of the law on who works.
use Rattle.std.specs.Prelude.{ℕ, ◌≡◌, ◌≤◌, ◌<◌, ◌==◌, Bool, true, false, ◌&&◌, ◌⊎◌, List, [], ◌∷◌, ◌++◌, Option, Some, None, if◌then◌else◌}
use Rattle.lease_clock.specs.Clocks.{is_silent}
use Rattle.lease_clock.specs.Leases.{is_among}
use Rattle.message.specs.declared.message.ToVoter.{ToVoter}
use Rattle.message.specs.declared.message.ToClient.{ToClient}
use Rattle.message.specs.declared.message.ClientBody.{ClientBody}
use Rattle.message.specs.declared.message.ClientBody.TheVariants as to_client
use Rattle.message.specs.declared.message.VoterBody.{VoterBody}
use Rattle.message.specs.declared.message.VoterBody.TheVariants as asks
use Rattle.numbers.specs.Bounds.{max_clients}
use Rattle.quiet_time.specs.declared.since_start.SinceStart.{SinceStart}
use Rattle.quiet_time.specs.Quiet.{forgotten, is_closed, is_old, noted, puts_off, quiet_step, since_start}
use Rattle.quiet_time.specs.Runs.{Lock}
use Rattle.quiet_time.specs.Runs as quiet_time
use Rattle.voter.specs.declared.state.Grant.{Grant}
use Rattle.voter.specs.declared.state.VoterState.{VoterState}
use Rattle.voter.specs.Leases.{evict}
use Rattle.voter.specs.Saved.{least_voter}
use Rattle.voter.specs.Steps.{IsSound, Outcome, remind}
use Rattle.voter.specs.VoterContract.{Ends}
use Rattle.working.specs.Events.{Event, IsOneOf, World, after_all}
use Rattle.working.specs.Events as law
use Rattle.working.specs.Voters.{Locked, Quiet, grant_of, may_let_go, set}
use Rattle.working.specs.Voters as working

-- ---- a vote, as the law has it

-- Whose requests these are: the session that asks by the number of a client, under a stamp. No stamp of a number is used by two.
abbrev pub Askers : Type 0
Askers = ℕ → ℕ → ℕ

-- the grant of a voter
abbrev pub as_grant : Askers → Grant → working.Grant
as_grant who g = grant_of (who g.client g.stamp) g.stamp g.grant

abbrev pub as_vote : Askers → Option Grant → Option working.Grant
as_vote who None = None
as_vote who (Some g) = Some (as_grant who g)

-- ---- a voter of a lock

-- a voter's vote for the lock, what was said of it since the voter's start, and whether the voter is quiet
pub record Place : Type 0 where
  pub lock : Lock
  pub is_quiet : Bool

-- The grant that a voter knows to have its vote. In its quiet time it knows of one since then alone: one that it gave, or of which the client
-- said that it is inside by it.
abbrev pub known : Bool → SinceStart → Option Grant → Option Grant
known false since held = held
known true since held = if is_old since held then None else held

abbrev pub grant_at : Place → Option Grant
grant_at p = known p.is_quiet p.lock.since p.lock.vote.held

-- its grant is from before a start that may have lost what it knew, so the vote may be somebody else's
abbrev pub is_doubtful : Place → Bool
is_doubtful p = p.is_quiet && is_old p.lock.since p.lock.vote.held

-- ---- what may happen

pub data Turn : Type 0 where
  -- something happens by which no vote is given, and no grant ends
  Happens : Event → Turn
  -- a message comes to a voter, and its client says that it is inside or not: voter, message, inside
  Meets : ℕ → ToVoter → Bool → Turn
  -- a voter lets the grant of this number go, if it is the current one: voter, number
  Evicts : ℕ → ℕ → Turn
  -- a voter reminds who has its vote: voter
  Reminds : ℕ → Turn
  -- a voter forgets that a client said that it is inside: voter, client
  Forgets : ℕ → ℕ → Turn
  -- A voter that is not quiet ends, and restarts from the least of what it saved. It knows that it lost nothing, so it is not quiet: voter
  Crashes : ℕ → Turn
  -- A voter is killed, and starts with this state: the last that it saved, or an older copy. So it is quiet: voter, state
  Loses : ℕ → VoterState → Turn
  -- the quiet time of a voter ends: voter
  Wakes : ℕ → Turn
  -- A voter's state changes, and nobody's vote does: its limit is raised, it skips numbers of grants, or a vote that nobody has is forgotten
  -- and made anew: voter, state
  Alters : ℕ → VoterState → Turn

-- by these no vote is given and no grant ends, and no voter loses its state
abbrev pub IsOther : Event → Type 0
IsOther (law.Passes voters sessions) = Unit {0}
IsOther (law.Beats session) = Unit {0}
IsOther (law.Hears session voter time) = Unit {0}
IsOther (law.Renews session voter place) = Unit {0}
IsOther (law.Marks voter) = Unit {0}
IsOther (law.Marked voter number) = Unit {0}
IsOther (law.CountsNow session voter) = Unit {0}
IsOther (law.QuietCountsNow voter) = Unit {0}
IsOther (law.Gives session voter request number) = ⊥
IsOther (law.Tells voter) = ⊥
IsOther (law.Takes session voter place) = Unit {0}
IsOther (law.Ends session request) = Unit {0}
IsOther (law.Released session voter request) = ⊥
IsOther (law.GivesBack session voter number) = Unit {0}
IsOther (law.Relinquished session voter number) = ⊥
IsOther (law.LetsGo voter) = ⊥
IsOther (law.LetsOtherGo session voter) = Unit {0}
IsOther (law.GivesOn session voter) = Unit {0}
IsOther (law.Restarts voter) = ⊥
IsOther (law.Loses voter) = ⊥
IsOther (law.Keeps session voter request number) = ⊥
IsOther (law.Wakes voter) = ⊥

-- what a voter says by an outcome; a step that is refused says nothing
abbrev pub said_by : Option Outcome → List ToClient
said_by None = []
said_by (Some o) = o.replies

-- the same voter with this lock
abbrev pub with_lock : Place → Lock → Place
with_lock p lock = record { lock = lock; is_quiet = p.is_quiet }

-- a voter that starts with this state, of which nothing was said yet
abbrev pub started : VoterState → Bool → Place
started state quiet = record { lock = record { vote = state; since = since_start state.granted }; is_quiet = quiet }

-- only who is inside gets the vote
abbrev pub closed_at : Place → Bool
closed_at p = is_closed p.is_quiet p.lock.since p.lock.vote

-- what a message does that is not put off
abbrev pub outcome_at : Place → ToVoter → Option Outcome
outcome_at p m = quiet_step (is_doubtful p) p.lock.vote m

-- what a voter says when a message comes, and the voter then, by whether the message is put off
abbrev pub replies_by : Bool → Place → ToVoter → List ToClient
replies_by true p m = []
replies_by false p m = said_by (outcome_at p m)

abbrev pub hears_by : Bool → Place → ToVoter → Bool → Place
hears_by true p m inside = p
hears_by false p m inside = with_lock p (quiet_time.after p.lock (λ v. noted (closed_at p) inside p.lock.since v m.client m.body) (outcome_at p m))

abbrev pub is_put_off : Place → ToVoter → Bool → Bool
is_put_off p m inside = puts_off (closed_at p) inside m.body

-- the voter of a turn after it
abbrev pub place_after : Place → Turn → Place
place_after p (Happens e) = p
place_after p (Meets voter m inside) = hears_by (is_put_off p m inside) p m inside
place_after p (Evicts voter number) = with_lock p (quiet_time.after p.lock (λ v. p.lock.since) (evict p.lock.vote number))
place_after p (Reminds voter) = p
place_after p (Forgets voter client) = with_lock p (record { vote = p.lock.vote; since = forgotten p.lock.since client })
place_after p (Crashes voter) = started (least_voter p.lock.vote) p.is_quiet
place_after p (Loses voter state) = started state true
place_after p (Wakes voter) = record { lock = p.lock; is_quiet = false }
place_after p (Alters voter state) = with_lock p (record { vote = state; since = p.lock.since })

-- the voter of a turn, 0 if it is of none
abbrev pub voter_of : Turn → ℕ
voter_of (Happens e) = 0
voter_of (Meets voter m inside) = voter
voter_of (Evicts voter number) = voter
voter_of (Reminds voter) = voter
voter_of (Forgets voter client) = voter
voter_of (Crashes voter) = voter
voter_of (Loses voter state) = voter
voter_of (Wakes voter) = voter
voter_of (Alters voter state) = voter

-- all voters after a turn
abbrev pub places_after : (ℕ → Place) → Turn → ℕ → Place
places_after places t = set places (voter_of t) (place_after (places (voter_of t)) t)

-- what voters say in a turn
abbrev pub said_in : (ℕ → Place) → Turn → List ToClient
said_in places (Happens e) = []
said_in places (Meets voter m inside) = replies_by (is_put_off (places voter) m inside) (places voter) m
said_in places (Evicts voter number) = said_by (evict (places voter).lock.vote number)
said_in places (Reminds voter) = if is_doubtful (places voter) then [] else remind (places voter).lock.vote
said_in places (Forgets voter client) = []
said_in places (Crashes voter) = []
said_in places (Loses voter state) = []
said_in places (Wakes voter) = []
said_in places (Alters voter state) = []

-- ---- what a turn is to the law

-- this grant has the vote
abbrev pub is_held : Option Grant → Grant → Bool
is_held None g = false
is_held (Some h) g = (h.client == g.client) && ((h.stamp == g.stamp) && (h.grant == g.grant))

-- A grant ended, if the vote was its own and is not any more: its session ended the request, or gave the vote back, or the voter may let it
-- go. Each of the three changes nothing if its condition does not hold.
abbrev pub ended_by : Askers → ℕ → Option Grant → Option Grant → List Event
ended_by who voter None after = []
ended_by who voter (Some g) after =
    if is_held after g then []
    else law.Released (who g.client g.stamp) voter g.stamp ∷ law.Relinquished (who g.client g.stamp) voter g.grant ∷ law.LetsGo voter ∷ []

-- A vote was given, if it is a grant's that did not have it. In a quiet time a session keeps it, that said so. Of the two events the one does
-- nothing in a quiet time, and the other one does nothing at any other time.
abbrev pub given_by : Askers → ℕ → Option Grant → Option Grant → List Event
given_by who voter before None = []
given_by who voter before (Some g) =
    if is_held before g then []
    else law.Gives (who g.client g.stamp) voter g.stamp g.grant ∷ law.Keeps (who g.client g.stamp) voter g.stamp g.grant ∷ []

-- the vote of a voter was the first, and is the second: a LOCKED of that may leave
abbrev pub events_by : Askers → ℕ → Option Grant → Option Grant → List Event
events_by who voter before after = ended_by who voter before after ++ given_by who voter before after ++ law.Tells voter ∷ []

-- what becomes of the vote that a voter knows of
abbrev pub events_at : Askers → ℕ → Place → Place → List Event
events_at who voter before after = events_by who voter (grant_at before) (grant_at after)

-- what a turn is
abbrev pub events_in : Askers → (ℕ → Place) → Turn → List Event
events_in who places (Happens e) = e ∷ []
events_in who places (Meets voter m inside) = events_at who voter (places voter) (place_after (places voter) (Meets voter m inside))
events_in who places (Evicts voter number) = events_at who voter (places voter) (place_after (places voter) (Evicts voter number))
events_in who places (Reminds voter) = law.Tells voter ∷ []
events_in who places (Forgets voter client) = events_at who voter (places voter) (place_after (places voter) (Forgets voter client))
events_in who places (Crashes voter) = law.Restarts voter ∷ []
events_in who places (Loses voter state) = law.Loses voter ∷ []
events_in who places (Wakes voter) = law.Wakes voter ∷ []
events_in who places (Alters voter state) = []

-- what these turns are, in order, and the voters after them
abbrev pub all_events : Askers → (ℕ → Place) → List Turn → List Event
all_events who places [] = []
all_events who places (t ∷ turns) = events_in who places t ++ all_events who (places_after places t) turns

abbrev pub all_after : (ℕ → Place) → List Turn → ℕ → Place
all_after places [] = places
all_after places (t ∷ turns) = all_after (places_after places t) turns

-- ---- turns that are true

-- A grant may end: its session ended the request, or gave the vote back, or the voter may let it go. In a quiet time it lets none go that it
-- knows of.
abbrev pub MayEnd : Askers → ℕ → World → ℕ → Bool → Grant → Type 0
MayEnd who ttl w voter quiet g =
    (is_among g.stamp (w.sessions (who g.client g.stamp)).ended ≡ true)
    ⊎ ((is_among g.grant ((w.sessions (who g.client g.stamp)).returned voter) ≡ true)
    ⊎ ((quiet ≡ false) × (may_let_go ttl (w.voters voter) (who g.client g.stamp) ≡ true)))

-- the grant that has this vote may end, if this is so of it
abbrev pub MayEndIf : Askers → ℕ → World → ℕ → Place → (Grant → Type 0) → Type 0
MayEndIf who ttl w voter p P = (g : Grant) → grant_at p ≡ Some g → P g → MayEnd who ttl w voter p.is_quiet g

-- no request has stamp 0
abbrev pub IsStamped : VoterBody → Type 0
IsStamped (asks.Request stamp) = 0 < stamp
IsStamped (asks.Relinquish grant) = Unit {0}
IsStamped (asks.Release stamp) = Unit {0}

-- a quiet time is over once it lasted for a TTL by the voter's lease clock
abbrev pub IsOver : ℕ → working.Voter → Type 0
IsOver ttl v = (q : Quiet) → v.quiet ≡ Some q → is_silent v.clock q.since ttl ≡ true

-- A turn of one voter is true:
-- - In a quiet time a message is of one of the clients that there are, and no REQUEST has stamp 0.
-- - A message that ends a grant is true, and a voter lets a grant go, or forgets what was said of it, only if that may end.
-- - Only a voter that is not quiet restarts as one that lost nothing. A state that is put back is sound.
-- - A quiet time ends after a TTL, once no grant from before it is left of which nobody said that he is inside.
-- - Whatever alters a state leaves the vote as it is, and in a quiet time the number of its grants does not fall.
abbrev pub IsTrueAt : Askers → ℕ → World → Place → Turn → Type 0
IsTrueAt who ttl w p (Happens e) = IsOther e
IsTrueAt who ttl w p (Meets voter m inside) =
    ((p.is_quiet ≡ true) → (m.client < max_clients) × IsStamped m.body) × MayEndIf who ttl w voter p (Ends m.client m.body)
IsTrueAt who ttl w p (Evicts voter number) = MayEndIf who ttl w voter p (λ g. g.grant ≡ number)
IsTrueAt who ttl w p (Reminds voter) = Unit {0}
IsTrueAt who ttl w p (Forgets voter client) = (p.is_quiet ≡ true) → MayEndIf who ttl w voter p (λ g. g.client ≡ client)
IsTrueAt who ttl w p (Crashes voter) = p.is_quiet ≡ false
IsTrueAt who ttl w p (Loses voter state) = IsSound state
IsTrueAt who ttl w p (Wakes voter) = (p.is_quiet ≡ true) × (is_doubtful p ≡ false) × IsOver ttl (w.voters voter)
IsTrueAt who ttl w p (Alters voter state) =
    (state.held ≡ p.lock.vote.held) × ((p.is_quiet ≡ true) → IsSound state × (p.lock.vote.granted ≤ state.granted))

abbrev pub IsTrue : Askers → ℕ → World → (ℕ → Place) → Turn → Type 0
IsTrue who ttl w places t = IsTrueAt who ttl w (places (voter_of t)) t

-- each of these is, when it comes
abbrev pub AreTrue : Askers → ℕ → ℕ → World → (ℕ → Place) → List Turn → Type 0
AreTrue who ttl span w places [] = Unit {0}
AreTrue who ttl span w places (t ∷ turns) =
    IsTrue who ttl w places t × AreTrue who ttl span (after_all ttl span w (events_in who places t)) (places_after places t) turns

-- no voter is quiet, and nobody has a vote
abbrev pub AreFree : (ℕ → Place) → Type 0
AreFree places = (voter : ℕ) → ((places voter).is_quiet ≡ false) × ((places voter).lock.vote.held ≡ None)

-- ---- what holds of the votes

-- this request of a session has the vote of this voter, unless the voter is quiet: then it may not know who has its vote
abbrev pub HasVote : Askers → (ℕ → Place) → ℕ → ℕ → ℕ → Type 0
HasVote who places session request voter =
    ((places voter).is_quiet ≡ true)
    ⊎ ((g : Grant) × ((places voter).lock.vote.held ≡ Some g) × (who g.client g.stamp ≡ session) × (g.stamp ≡ request))

-- A reply that is a LOCKED left the voter in the law, too, for the session that asked. In a quiet time it renews a vote.
abbrev pub WasTold : Askers → World → ℕ → Bool → ℕ → ClientBody → Type 0
WasTold who w voter quiet client (to_client.Locked stamp number) =
    (lapses : ℕ) × IsOneOf (record { grant = grant_of (who client stamp) stamp number; lapses = lapses; renews = quiet }) (w.voters voter).told
WasTold who w voter quiet client (to_client.Fail stamp) = Unit {0}
WasTold who w voter quiet client (to_client.Inquire number) = Unit {0}

-- whether the voter of a turn is quiet, when it comes
abbrev pub is_quiet_in : (ℕ → Place) → Turn → Bool
is_quiet_in places t = (places (voter_of t)).is_quiet
