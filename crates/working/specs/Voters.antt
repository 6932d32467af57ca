-- A voter of one lock. It gives its vote to one request at a time, and lets a grant go once the session that has it is
-- silent for a TTL by the voter's lease clock (Gray and Cheriton, "Leases: An Efficient Fault-Tolerant Mechanism for
-- Distributed File Cache Consistency", SOSP 1989). Voters, sessions and requests have numbers.
use Rattle.std.specs.Prelude.{ℕ, ◌+◌, ◌==◌, min, Bool, ◌&&◌, ◌||◌, List, [], ◌∷◌, Option, Some, None, if◌then◌else◌, false, true, is_some}
use Rattle.lease_clock.specs.Clocks.{Clock, at, begun, is_silent}
use Rattle.lease_clock.specs.Leases.{is_among}

-- The vote of a voter, given to a request of a session. A RELINQUISH names it by its number.
pub record Grant : Type 0 where
  pub session : ℕ
  pub request : ℕ
  pub number : ℕ

abbrev pub grant_of : ℕ → ℕ → ℕ → Grant
grant_of session request number = record { session = session; request = request; number = number }

-- A LOCKED: a voter tells a session of its grant, and says its lapses. One that left in a quiet time renews a vote.
pub record Locked : Type 0 where
  pub grant : Grant
  pub lapses : ℕ
  pub renews : Bool

-- An acknowledgement: a voter tells a session that it heard the heartbeat that left at this time, by the session's clock,
-- and says its lapses of then. So it counts for the grants that the voter did not let go since they were given.
pub record Acknowledgement : Type 0 where
  pub session : ℕ
  pub beat : ℕ
  pub lapses : ℕ

-- The quiet time of a voter that may have lost its state. Meanwhile it gives its vote only to a session that says that it
-- works with it (as in the grace period of NFS version 4, RFC 7530, section 9.6.2).
pub record Quiet : Type 0 where
  -- when it began, on the lease clock
  pub since : ℕ
  -- how often the voter lost its state again since it served
  pub again : ℕ
  -- the grant that it gave since, if it gave one
  pub kept : Option Grant

-- A voter saves before anything leaves. So what it forgets in a crash is as if it never came, and a restart from what it
-- saved forgets its times alone.
pub record Voter : Type 0 where
  -- the time by its clock, and its lease clock
  pub time : ℕ
  pub clock : Clock
  -- when it heard each session last, on the lease clock
  pub heard : ℕ → ℕ
  -- Its lapses: how often it let a grant of each session go, as it was silent, or lost its state. Messages say the two counts
  -- apart, as lapses and as runs: both only grow, so one number stands for them here.
  pub lapses : ℕ → ℕ
  -- the sessions whose numbers it gave on to others
  pub over : List ℕ
  -- the grant that is current, if anybody has the vote
  pub current : Option Grant
  -- Its quiet time, if it is quiet. Meanwhile it does not know its lapses, nor which grant was current: both stand here as they
  -- were.
  pub quiet : Option Quiet
  -- each LOCKED and each acknowledgement that ever left it, the newest first
  pub told : List Locked
  pub acknowledged : List Acknowledgement

-- it begins with a lease clock of this period, and gave its vote to nobody
abbrev pub begun_voter : ℕ → ℕ → Voter
begun_voter period time = record {
  time = time;
  clock = begun period time;
  heard = λ session. time;
  lapses = λ session. 0;
  over = [];
  current = None;
  quiet = None;
  told = [];
  acknowledged = [];
}

-- a function that has this value at one place
abbrev pub set : {X : Type 0} → (ℕ → X) → ℕ → X → ℕ → X
set f place value other = if place == other then value else f other

-- ---- time, and restarts

-- its clock goes on
abbrev pub voter_later : Voter → ℕ → Voter
voter_later v span = record v { time = v.time + span }

-- its lease clock goes on
abbrev pub with_clock : Voter → Clock → Voter
with_clock v clock = record v { clock = clock }

-- a quiet time begins anew
abbrev pub quiet_anew : Option Quiet → ℕ → Option Quiet
quiet_anew None now = None
quiet_anew (Some q) now = Some (record q { since = now })

-- it crashes, and restarts from what it saved: its lease clock begins anew, and it takes each session as heard now
abbrev pub restarted : Voter → Voter
restarted v = record v { clock = begun v.clock.period v.time; heard = λ session. v.time; quiet = quiet_anew v.quiet v.time }

-- how often the state was lost again, if it is lost now
abbrev pub lost_again : Option Quiet → ℕ
lost_again None = 0
lost_again (Some q) = q.again + 1

-- a quiet time begins, in which it gave its vote to nobody yet
abbrev pub quiet_again : Option Quiet → ℕ → Quiet
quiet_again quiet now = record { since = now; again = lost_again quiet; kept = None }

-- it restarts, and may have lost its state: so it is quiet, and knows of no number that it gave on
abbrev pub lost : Voter → Voter
lost v = record v { clock = begun v.clock.period v.time; heard = λ session. v.time; over = []; quiet = Some (quiet_again v.quiet v.time) }

-- the lapses that it says: those that it goes on with, if it is quiet
abbrev pub said : ℕ → Option Quiet → ℕ
said lapses None = lapses
said lapses (Some q) = lapses + 1 + q.again

-- its quiet time is over after a TTL by its lease clock: it goes on with the grant that it gave meanwhile
abbrev pub awake : ℕ → Voter → Option Quiet → Voter
awake ttl v None = v
awake ttl v (Some q) =
    if is_silent v.clock q.since ttl then record v { lapses = λ session. said (v.lapses session) (Some q); current = q.kept; quiet = None } else v

-- it does this unless it is quiet
abbrev pub unless_quiet : Voter → Option Quiet → Voter → Voter
unless_quiet v None next = next
unless_quiet v (Some q) next = v

-- ---- heartbeats

-- it hears a heartbeat of a session, and acknowledges it
abbrev pub hears : Voter → ℕ → ℕ → Voter
hears v session beat = record v {
  heard = set v.heard session (at v.clock v.time);
  acknowledged = record { session = session; beat = beat; lapses = said (v.lapses session) v.quiet } ∷ v.acknowledged;
}

-- it takes no heartbeat of a session whose number it gave on
abbrev pub heard_from : Voter → ℕ → ℕ → Voter
heard_from v session beat = if is_among session v.over then v else hears v session beat

-- A session counts as heard now, at the latest: what the lease clock skipped since it was heard is skipped for it, too.
abbrev pub counts_now : Voter → ℕ → Voter
counts_now v session = record v { heard = set v.heard session (min (v.heard session) (at v.clock v.time)) }

-- a quiet time counts as begun now, at the latest
abbrev pub quiet_by : Option Quiet → ℕ → Option Quiet
quiet_by None now = None
quiet_by (Some q) now = Some (record q { since = min q.since now })

-- What the lease clock skipped since its quiet time began is skipped for that, too.
abbrev pub quiet_counts_now : Voter → Voter
quiet_counts_now v = record v { quiet = quiet_by v.quiet (at v.clock v.time) }

-- ---- grants

-- a grant is current, and a LOCKED of it leaves
abbrev pub tells : Voter → Grant → Voter
tells v grant = record v { current = Some grant; told = record { grant = grant; lapses = v.lapses grant.session; renews = false } ∷ v.told }

-- it tells again who has its vote
abbrev pub tells_again : Voter → Option Grant → Voter
tells_again v None = v
tells_again v (Some grant) = tells v grant

-- it gives its vote, if nobody has it
abbrev pub gives : Voter → Option Grant → Grant → Voter
gives v None grant = tells v grant
gives v (Some other) grant = v

-- in its quiet time it gives its vote to a session that says that it works with it, if it gave it to nobody since
abbrev pub renewed : Voter → Option Quiet → Grant → Voter
renewed v None grant = v
renewed v (Some q) grant = if is_some q.kept then v else record v {
  quiet = Some (record q { kept = Some grant });
  told = record { grant = grant; lapses = said (v.lapses grant.session) (Some q); renews = true } ∷ v.told;
}

-- no grant, if it is such a one
abbrev pub free : Option Grant → (Grant → Bool) → Option Grant
free None is_such = None
free (Some grant) is_such = if is_such grant then None else Some grant

-- the grant ends that it knows of, if it is such a one
abbrev pub ends : Voter → Option Quiet → (Grant → Bool) → Voter
ends v None is_such = record v { current = free v.current is_such }
ends v (Some q) is_such = record v { quiet = Some (record q { kept = free q.kept is_such }) }

-- a RELEASE of a session ends a grant of this request
abbrev pub is_of_request : ℕ → ℕ → Grant → Bool
is_of_request session request grant = (grant.session == session) && (grant.request == request)

-- a RELINQUISH of a session ends a grant of this number
abbrev pub is_of_number : ℕ → ℕ → Grant → Bool
is_of_number session number grant = (grant.session == session) && (grant.number == number)

-- ---- silence

-- it may let grants of the session go: the session is silent for a TTL, or its number was given on
abbrev pub may_let_go : ℕ → Voter → ℕ → Bool
may_let_go ttl v session = is_silent v.clock (v.heard session) ttl || is_among session v.over

-- it let a grant of the session go, and this one is current now
abbrev pub lapsed : Voter → ℕ → Option Grant → Voter
lapsed v session current = record v { lapses = set v.lapses session (v.lapses session + 1); current = current }

-- it lets the current grant go, if it may
abbrev pub lets_go : ℕ → Voter → Option Grant → Voter
lets_go ttl v None = v
lets_go ttl v (Some grant) = if may_let_go ttl v grant.session then lapsed v grant.session None else v

-- it lets the session's grant of another lock go, if it may
abbrev pub lets_other_go : ℕ → Voter → ℕ → Voter
lets_other_go ttl v session = if may_let_go ttl v session then lapsed v session v.current else v

-- it gives the number of a session on to another one, if the session is silent for a TTL
abbrev pub gives_on : ℕ → Voter → ℕ → Voter
gives_on ttl v session = if is_silent v.clock (v.heard session) ttl then record v { over = session ∷ v.over } else v
