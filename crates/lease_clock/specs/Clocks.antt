-- The lease clock of a voter. Times are nanoseconds of one clock of the voter.
use Rattle.std.specs.Prelude.{ℕ, ◌<◌, ◌≤◌, ◌+◌, ◌-◌, ◌*◌, ◌^◌, ◌==◌, nat_le, nat_lt, max, Bool, ◌&&◌, ◌||◌, List, [], ◌∷◌, ◌++◌, drop, length, if◌then◌else◌}
use Rattle.lease_clock.specs.declared.marker.Marker.{Marker}

-- the most markers that may be under way
abbrev pub most_away : ℕ
most_away = 16

-- the last number that a marker may have
abbrev pub last_number : ℕ
last_number = 2 ^ 64 - 1

-- The clock: how long it is from one marker to the next, for how long nobody could be heard, the
-- markers that are under way, the newest last, the last one that left, and the newest that came
-- back.
pub record Clock : Type 0 where
  pub period : ℕ
  pub skipped : ℕ
  pub away : List Marker
  pub last : Marker
  pub back : Marker

-- a clock that begins now
abbrev pub begun : ℕ → ℕ → Clock
begun period now = record {
  period = period;
  skipped = 0;
  away = [];
  last = record { number = 0; left = now };
  back = record { number = 0; left = now };
}

-- ---- a marker leaves

-- none left yet, or a period has passed since the last one did; and there is a number for one more
abbrev pub is_due : Clock → ℕ → Bool
is_due c now = nat_lt c.last.number last_number && ((c.last.number == 0) || nat_le c.period (now - c.last.left))

-- the time, which is never before the last marker left
abbrev pub time_of : Clock → ℕ → ℕ
time_of c now = max now c.last.left

-- the newest of these markers, with room for one more
abbrev pub make_room : List Marker → List Marker
make_room ms = drop (length ms + 1 - most_away) ms

-- the next marker leaves now
abbrev pub sent : Clock → ℕ → Clock
sent c now = record {
  period = c.period;
  skipped = c.skipped;
  away = make_room c.away ++ record { number = c.last.number + 1; left = time_of c now } ∷ [];
  last = record { number = c.last.number + 1; left = time_of c now };
  back = c.back;
}

-- a marker leaves now, if one is due
abbrev pub leaves : Clock → ℕ → Clock
leaves c now = if is_due c now then sent c now else c

-- ---- a marker comes back

-- the markers from this number on; none if that one is not among them
abbrev pub from_number : ℕ → List Marker → List Marker
from_number number [] = []
from_number number (m ∷ ms) = if m.number == number then m ∷ ms else from_number number ms

-- from when the newest that came back before it left, until it left
abbrev pub gap : Clock → Marker → ℕ
gap c m = m.left - c.back.left

-- Of the gap, the time in which nobody could be heard: all of it if markers between the two were
-- lost, else what it has above two periods, as this process stood still then.
abbrev pub lost : Clock → Marker → ℕ
lost c m = if m.number == c.back.number + 1 then gap c m - 2 * c.period else gap c m

-- the first of these markers came back: it and all that left before it are no longer under way
abbrev pub came_back : Clock → List Marker → Clock
came_back c [] = c
came_back c (m ∷ later) = record { period = c.period; skipped = c.skipped + lost c m; away = later; last = c.last; back = m }

-- the marker of this number comes back: if it is not under way nothing changes
abbrev pub returned : Clock → ℕ → Clock
returned c number = came_back c (from_number number c.away)

-- ---- what the clock shows

-- A session that is heard now is heard at this reading.
abbrev pub at : Clock → ℕ → ℕ
at c now = time_of c now - c.skipped

-- up to when all that was sent was heard
abbrev pub reading : Clock → ℕ
reading c = c.back.left - c.skipped

-- a session that was heard at this reading is silent for a TTL
abbrev pub is_silent : Clock → ℕ → ℕ → Bool
is_silent c heard ttl = nat_le (heard + ttl) (reading c)

-- ---- clocks that may be

-- the markers between these two left one after the other, at times that do not fall
abbrev pub AreInOrder : Marker → List Marker → Marker → Type 0
AreInOrder first [] last = (first.number ≤ last.number) × (first.left ≤ last.left)
AreInOrder first (m ∷ ms) last = (first.number < m.number) × (first.left ≤ m.left) × AreInOrder m ms last

-- a clock that calls may lead to
pub record IsSound (c : Clock) : Type 0 where
  pub few : length c.away ≤ most_away
  pub ordered : AreInOrder c.back c.away c.last
  pub behind : c.skipped ≤ c.back.left
