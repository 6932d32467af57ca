-- All voters of one lock and all sessions, and what may happen, at any time.
use Rattle.std.specs.Prelude.{ℕ, ◌≡◌, ◌≤◌, ◌*◌, true, ◌⊎◌, List, [], ◌∷◌, Some, if◌then◌else◌}
use Rattle.std.specs.List.{slice_get}
use Rattle.lease_clock.specs.Clocks.{leaves, returned}
use Rattle.lease_clock.specs.Leases.{is_among}
use Rattle.working.specs.Sessions.{Session, beaten, begun_session, has_ended, has_returned, is_working, renews, session_later, takes}
use Rattle.working.specs.Voters.{Voter, awake, begun_voter, counts_now, ends, gives, gives_on, grant_of, heard_from, is_of_number, is_of_request, lets_go, lets_other_go, lost, quiet_counts_now, renewed, restarted, set, tells_again, unless_quiet, voter_later, with_clock}

-- the voters and the sessions, by their numbers
pub record World : Type 0 where
  pub voters : ℕ → Voter
  pub sessions : ℕ → Session

-- Each voter begins at any time, with a lease clock of any period, and each session at any time. Whoever is not there yet, or
-- not any more, does nothing.
abbrev pub begins : (ℕ → ℕ) → (ℕ → ℕ) → (ℕ → ℕ) → World
begins periods voters sessions = record {
  voters = λ voter. begun_voter (periods voter) (voters voter);
  sessions = λ session. begun_session (sessions session);
}

-- What may happen. Messages that left arrive late, in any order, again, or never. There is no event for an operator who ends a
-- grant: that is outside. Nor is there one for a session that closes: it ends its requests.
pub data Event : Type 0 where
  -- time passes: the clock of each voter goes on by its first number, and that of each session by its second one
  Passes : (ℕ → ℕ) → (ℕ → ℕ) → Event
  -- a heartbeat leaves a session: session
  Beats : ℕ → Event
  -- the heartbeat that left at this time reaches a voter: session, voter, time
  Hears : ℕ → ℕ → ℕ → Event
  -- an acknowledgement reaches a session, by its place among all that left the voter: session, voter, place
  Renews : ℕ → ℕ → ℕ → Event
  -- a marker leaves a voter, if one is due: voter
  Marks : ℕ → Event
  -- the marker of this number comes back to a voter: voter, number
  Marked : ℕ → ℕ → Event
  -- a session counts as heard now at a voter, at the latest: session, voter
  CountsNow : ℕ → ℕ → Event
  -- the quiet time of a voter counts as begun now, at the latest: voter
  QuietCountsNow : ℕ → Event
  -- A voter gives its vote to a request, if nobody has it, and a LOCKED leaves. Its grant may have any number: session, voter,
  -- request, number
  Gives : ℕ → ℕ → ℕ → ℕ → Event
  -- a voter sends the LOCKED of its current grant again: voter
  Tells : ℕ → Event
  -- a LOCKED reaches a session, by its place among all that left the voter: session, voter, place
  Takes : ℕ → ℕ → ℕ → Event
  -- a session ends a request: it stops working, and its RELEASEs leave: session, request
  Ends : ℕ → ℕ → Event
  -- a RELEASE reaches a voter: session, voter, request
  Released : ℕ → ℕ → ℕ → Event
  -- a session gives a vote back, and its RELINQUISH leaves: session, voter, number
  GivesBack : ℕ → ℕ → ℕ → Event
  -- a RELINQUISH reaches a voter: session, voter, number
  Relinquished : ℕ → ℕ → ℕ → Event
  -- a voter lets its current grant go, if it may: voter
  LetsGo : ℕ → Event
  -- a voter lets a session's grant of another lock go, if it may: session, voter
  LetsOtherGo : ℕ → ℕ → Event
  -- a voter gives the number of a session on to another one, if the first is silent: session, voter
  GivesOn : ℕ → ℕ → Event
  -- a voter crashes, and restarts from what it saved: voter
  Restarts : ℕ → Event
  -- a voter restarts, and may have lost its state, so it is quiet: voter
  Loses : ℕ → Event
  -- A quiet voter hears from a session that it works with the voter's vote: late, or falsely. It gives the vote to it if it
  -- gave it to nobody since, and a LOCKED leaves: session, voter, request, number
  Keeps : ℕ → ℕ → ℕ → ℕ → Event
  -- the quiet time of a voter ends, if it is over: voter
  Wakes : ℕ → Event

-- a voter is this one from now on
abbrev pub with_voter : World → ℕ → Voter → World
with_voter w voter v = record { voters = set w.voters voter v; sessions = w.sessions }

-- a voter that is not quiet is this one from now on
abbrev pub serving : World → ℕ → Voter → World
serving w voter v = with_voter w voter (unless_quiet (w.voters voter) (w.voters voter).quiet v)

-- a session is this one from now on
abbrev pub with_session : World → ℕ → Session → World
with_session w session s = record { voters = w.voters; sessions = set w.sessions session s }

-- The world after an event, where a voter lets a grant go after this TTL, and a heartbeat counts for this span. A message
-- that never left changes nothing when it arrives.
abbrev pub after : ℕ → ℕ → World → Event → World
after ttl span w (Passes voters sessions) = record {
  voters = λ voter. voter_later (w.voters voter) (voters voter);
  sessions = λ session. session_later (w.sessions session) (sessions session);
}
after ttl span w (Beats session) = with_session w session (beaten (w.sessions session))
after ttl span w (Hears session voter time) =
    if is_among time (w.sessions session).beats then with_voter w voter (heard_from (w.voters voter) session time) else w
after ttl span w (Renews session voter place) =
    with_session w session (renews session (w.sessions session) voter (slice_get (w.voters voter).acknowledged place))
after ttl span w (Marks voter) = with_voter w voter (with_clock (w.voters voter) (leaves (w.voters voter).clock (w.voters voter).time))
after ttl span w (Marked voter number) = with_voter w voter (with_clock (w.voters voter) (returned (w.voters voter).clock number))
after ttl span w (CountsNow session voter) = with_voter w voter (counts_now (w.voters voter) session)
after ttl span w (QuietCountsNow voter) = with_voter w voter (quiet_counts_now (w.voters voter))
after ttl span w (Gives session voter request number) =
    serving w voter (gives (w.voters voter) (w.voters voter).current (grant_of session request number))
after ttl span w (Tells voter) = serving w voter (tells_again (w.voters voter) (w.voters voter).current)
after ttl span w (Takes session voter place) =
    with_session w session (takes span session (w.sessions session) voter (slice_get (w.voters voter).told place))
after ttl span w (Ends session request) = with_session w session (has_ended (w.sessions session) request)
after ttl span w (Released session voter request) =
    if is_among request (w.sessions session).ended then with_voter w voter (ends (w.voters voter) (w.voters voter).quiet (is_of_request session request)) else w
after ttl span w (GivesBack session voter number) = with_session w session (has_returned (w.sessions session) voter number)
after ttl span w (Relinquished session voter number) =
    if is_among number ((w.sessions session).returned voter) then with_voter w voter (ends (w.voters voter) (w.voters voter).quiet (is_of_number session number)) else w
after ttl span w (LetsGo voter) = serving w voter (lets_go ttl (w.voters voter) (w.voters voter).current)
after ttl span w (LetsOtherGo session voter) = serving w voter (lets_other_go ttl (w.voters voter) session)
after ttl span w (GivesOn session voter) = serving w voter (gives_on ttl (w.voters voter) session)
after ttl span w (Restarts voter) = with_voter w voter (restarted (w.voters voter))
after ttl span w (Loses voter) = with_voter w voter (lost (w.voters voter))
after ttl span w (Keeps session voter request number) =
    with_voter w voter (renewed (w.voters voter) (w.voters voter).quiet (grant_of session request number))
after ttl span w (Wakes voter) = with_voter w voter (awake ttl (w.voters voter) (w.voters voter).quiet)

-- the world after these, in order
abbrev pub after_all : ℕ → ℕ → World → List Event → World
after_all ttl span w [] = w
after_all ttl span w (e ∷ es) = after_all ttl span (after ttl span w e) es

-- while any time passes each voter's clock is at most b/a times as fast as any session's
abbrev pub IsRated : ℕ → ℕ → Event → Type 0
IsRated a b (Passes voters sessions) = (voter session : ℕ) → a * voters voter ≤ b * sessions session
IsRated a b e = Unit {0}

-- ---- who works

-- x is one of these
abbrev pub IsOneOf : {A : Type 0} → A → List A → Type 0
IsOneOf x [] = ⊥
IsOneOf x (y ∷ ys) = (x ≡ y) ⊎ IsOneOf x ys

-- any two of these quorums share a voter
abbrev pub DoMeet : List (List ℕ) → Type 0
DoMeet quorums = (p q : List ℕ) → IsOneOf p quorums → IsOneOf q quorums → (v : ℕ) × IsOneOf v p × IsOneOf v q

-- the session works under this request, with the votes of one of these quorums
pub record Works (lease stop : ℕ) (quorums : List (List ℕ)) (w : World) (session request : ℕ) : Type 0 where
  pub quorum : List ℕ
  pub is_quorum : IsOneOf quorum quorums
  pub works : is_working lease stop (w.sessions session) request quorum ≡ true

-- this request has the voter's vote
abbrev pub HasVote : World → ℕ → ℕ → ℕ → Type 0
HasVote w session request voter = (number : ℕ) × ((w.voters voter).current ≡ Some (grant_of session request number))
