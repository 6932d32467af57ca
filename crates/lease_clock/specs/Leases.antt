-- What may come to a lease clock; and leases by time, of one voter and one client (Gray and
-- Cheriton, "Leases: An Efficient Fault-Tolerant Mechanism for Distributed File Cache Consistency",
-- SOSP 1989).
use Rattle.std.specs.Prelude.{ℕ, ◌≡◌, ◌≤◌, ◌+◌, ◌*◌, ◌==◌, max, min, nat_lt, Bool, true, false, ◌||◌, List, [], ◌∷◌, Option, Some, None, if◌then◌else◌}
use Rattle.lease_clock.specs.Clocks.{Clock, at, begun, from_number, gap, is_silent, leaves, returned}
use Rattle.lease_clock.specs.declared.marker.Marker.{Marker}

-- ---- one clock

-- what may come to a clock
pub data Tick : Type 0 where
  -- a marker leaves at this time, if one is due
  Leaves : ℕ → Tick
  -- the marker of this number comes back: in any order, again, or from nowhere
  Returns : ℕ → Tick

-- the clock after it
abbrev pub ticked : Clock → Tick → Clock
ticked c (Leaves now) = leaves c now
ticked c (Returns number) = returned c number

-- the clock after these, in order
abbrev pub all_ticked : Clock → List Tick → Clock
all_ticked c [] = c
all_ticked c (t ∷ ts) = all_ticked (ticked c t) ts

-- how much the return of a marker counts: up to two periods of its gap, if it is the next one
abbrev pub counted : Clock → List Marker → ℕ
counted c [] = 0
counted c (m ∷ later) = if m.number == c.back.number + 1 then min (gap c m) (2 * c.period) else 0

abbrev pub counts : Clock → Tick → ℕ
counts c (Leaves now) = 0
counts c (Returns number) = counted c (from_number number c.away)

-- how much these count
abbrev pub all_count : Clock → List Tick → ℕ
all_count c [] = 0
all_count c (t ∷ ts) = counts c t + all_count (ticked c t) ts

-- a marker that comes back is the next one, and left at most two periods after the one before it
abbrev pub IsNext : Clock → List Marker → Type 0
IsNext c [] = Unit {0}
IsNext c (m ∷ later) = (m.number ≡ c.back.number + 1) × (gap c m ≤ 2 * c.period)

abbrev pub IsInTurn : Clock → Tick → Type 0
IsInTurn c (Leaves now) = Unit {0}
IsInTurn c (Returns number) = IsNext c (from_number number c.away)

-- markers come back one after the other, and each leaves at most two periods after the one before it
abbrev pub AreInTurn : Clock → List Tick → Type 0
AreInTurn c [] = Unit {0}
AreInTurn c (t ∷ ts) = IsInTurn c t × AreInTurn (ticked c t) ts

-- ---- a voter and a client that has its grant

pub record World : Type 0 where
  -- the time by the voter's clock, and by the client's
  pub voter_time : ℕ
  pub client_time : ℕ
  -- the lease clock of the voter
  pub clock : Clock
  -- when it heard the client's session last, on the lease clock
  pub heard : ℕ
  -- it let the client's grant go
  pub is_gone : Bool
  -- when heartbeats left the client, by the client's clock
  pub beats : List ℕ
  -- those that the voter acknowledged before it let the grant go
  pub acknowledged : List ℕ
  -- when the newest heartbeat left of which an acknowledgement came back to the client; none at
  -- first
  pub lease : Option ℕ

-- the voter and the client begin at any times
abbrev pub begins : ℕ → ℕ → ℕ → World
begins period voter_time client_time = record {
  voter_time = voter_time;
  client_time = client_time;
  clock = begun period voter_time;
  heard = voter_time;
  is_gone = false;
  beats = [];
  acknowledged = [];
  lease = None;
}

pub data Event : Type 0 where
  -- time passes: the voter's clock goes on by the first, and the client's by the second
  Passes : ℕ → ℕ → Event
  -- a heartbeat leaves the client
  Beats : Event
  -- the heartbeat that left at this time reaches the voter: late, in any order, or again
  Hears : ℕ → Event
  -- the acknowledgement of that heartbeat reaches the client: late, in any order, or again
  Renews : ℕ → Event
  -- a marker leaves the voter, if one is due
  Marks : Event
  -- the marker of this number comes back to the voter
  Marked : ℕ → Event
  -- The session counts as heard now, at the latest: what the lease clock skipped since it was heard is skipped for it, too
  CountsNow : Event
  -- the voter lets the grant go, if the session is silent for a TTL, and saves that
  LetsGo : Event
  -- the voter crashes, and restarts from what it saved: it takes the session as heard then
  Restarts : Event

-- x is among these
abbrev pub is_among : ℕ → List ℕ → Bool
is_among x [] = false
is_among x (y ∷ ys) = (x == y) || is_among x ys

-- the newer of a lease and a time
abbrev pub newer : Option ℕ → ℕ → Option ℕ
newer None time = Some time
newer (Some lease) time = Some (max lease time)

-- time passes
abbrev pub passed : World → ℕ → ℕ → World
passed w voter client = record {
  voter_time = w.voter_time + voter;
  client_time = w.client_time + client;
  clock = w.clock;
  heard = w.heard;
  is_gone = w.is_gone;
  beats = w.beats;
  acknowledged = w.acknowledged;
  lease = w.lease;
}

-- a heartbeat leaves
abbrev pub beaten : World → World
beaten w = record {
  voter_time = w.voter_time;
  client_time = w.client_time;
  clock = w.clock;
  heard = w.heard;
  is_gone = w.is_gone;
  beats = w.client_time ∷ w.beats;
  acknowledged = w.acknowledged;
  lease = w.lease;
}

-- The voter hears a heartbeat. It acknowledges it for the grant only if it did not let the grant
-- go.
abbrev pub hears : World → ℕ → World
hears w beat = record {
  voter_time = w.voter_time;
  client_time = w.client_time;
  clock = w.clock;
  heard = at w.clock w.voter_time;
  is_gone = w.is_gone;
  beats = w.beats;
  acknowledged = if w.is_gone then w.acknowledged else beat ∷ w.acknowledged;
  lease = w.lease;
}

-- an acknowledgement renews the client's lease
abbrev pub renews : World → ℕ → World
renews w beat = record {
  voter_time = w.voter_time;
  client_time = w.client_time;
  clock = w.clock;
  heard = w.heard;
  is_gone = w.is_gone;
  beats = w.beats;
  acknowledged = w.acknowledged;
  lease = newer w.lease beat;
}

-- the lease clock goes on
abbrev pub with_clock : World → Clock → World
with_clock w clock = record {
  voter_time = w.voter_time;
  client_time = w.client_time;
  clock = clock;
  heard = w.heard;
  is_gone = w.is_gone;
  beats = w.beats;
  acknowledged = w.acknowledged;
  lease = w.lease;
}

-- the session was heard at this reading
abbrev pub with_heard : World → ℕ → World
with_heard w heard = record {
  voter_time = w.voter_time;
  client_time = w.client_time;
  clock = w.clock;
  heard = heard;
  is_gone = w.is_gone;
  beats = w.beats;
  acknowledged = w.acknowledged;
  lease = w.lease;
}

-- the session counts as heard now, at the latest
abbrev pub counted_now : World → World
counted_now w = with_heard w (min w.heard (at w.clock w.voter_time))

-- the voter lets the grant go
abbrev pub lets_go : World → World
lets_go w = record {
  voter_time = w.voter_time;
  client_time = w.client_time;
  clock = w.clock;
  heard = w.heard;
  is_gone = true;
  beats = w.beats;
  acknowledged = w.acknowledged;
  lease = w.lease;
}

-- the voter restarts, with a lease clock that begins anew
abbrev pub restarted : World → World
restarted w = record {
  voter_time = w.voter_time;
  client_time = w.client_time;
  clock = begun w.clock.period w.voter_time;
  heard = w.voter_time;
  is_gone = w.is_gone;
  beats = w.beats;
  acknowledged = w.acknowledged;
  lease = w.lease;
}

-- The world after an event, where a voter lets a grant go after this TTL. An event that can't be
-- changes nothing: a heartbeat that never left, an acknowledgement that never left, a session that
-- is not silent.
abbrev pub after : ℕ → World → Event → World
after ttl w (Passes voter client) = passed w voter client
after ttl w Beats = beaten w
after ttl w (Hears beat) = if is_among beat w.beats then hears w beat else w
after ttl w (Renews beat) = if is_among beat w.acknowledged then renews w beat else w
after ttl w Marks = with_clock w (leaves w.clock w.voter_time)
after ttl w (Marked number) = with_clock w (returned w.clock number)
after ttl w CountsNow = counted_now w
after ttl w LetsGo = if is_silent w.clock w.heard ttl then lets_go w else w
after ttl w Restarts = restarted w

-- the world after these, in order
abbrev pub after_all : ℕ → World → List Event → World
after_all ttl w [] = w
after_all ttl w (e ∷ es) = after_all ttl (after ttl w e) es

-- while any time passes the voter's clock is at most b/a times as fast as the client's
abbrev pub IsRated : ℕ → ℕ → Event → Type 0
IsRated a b (Passes voter client) = a * voter ≤ b * client
IsRated a b e = Unit {0}

-- a lease that was renewed at this time lasts for a span
abbrev pub lasts : Option ℕ → ℕ → ℕ → Bool
lasts None span now = false
lasts (Some lease) span now = nat_lt now (lease + span)

-- the client works: it has a lease, and that ended no longer ago than the client takes to stop
abbrev pub is_working : ℕ → ℕ → World → Bool
is_working lease stop w = lasts w.lease (lease + stop) w.client_time
