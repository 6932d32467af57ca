-- what each step of a clock keeps
use Rattle.std.proofs.Common.{◌≡◌, ◌≢◌, ℕ, ◌+◌, ◌-◌, ◌*◌, ◌<◌, ◌≤◌, Bool, true, false, List, [], ◌∷◌, ◌++◌, length, drop, refl, subst, ◌∙◌, arith, length-append, length-drop}
use Rattle.std.specs.Prelude.{zero, suc, ◌==◌, max, min, if◌then◌else◌}
use Rattle.std.proofs.lemmas.Bool.Decides.{nat_tests}
use Rattle.lease_clock.specs.Clocks.{AreInOrder, Clock, IsSound, at, begun, came_back, from_number, gap, is_due, is_silent, lost, make_room, most_away, reading, returned, sent, time_of}
use Rattle.lease_clock.specs.declared.marker.Marker.{Marker}
use Rattle.lease_clock.specs.Leases.{AreInTurn, IsInTurn, IsNext, Leaves, Returns, Tick, all_count, all_ticked, counted, counts, ticked}

-- ---- markers in order

pub ends_in_order : (a : Marker) (ms : List Marker) (z : Marker) → AreInOrder a ms z → (a.number ≤ z.number) × (a.left ≤ z.left)
ends_in_order a [] z o = o
ends_in_order a (m ∷ ms) z o =
    let number = o.0 in
    let left = o.1 in
    let rest = ends_in_order m ms z o.2 in
    let further = rest.0 in
    let later = rest.1 in
    (omega arith, omega arith)

pub one_more : (a : Marker) (ms : List Marker) (z m : Marker) → z.number < m.number → z.left ≤ m.left → AreInOrder a ms z → AreInOrder a (ms ++ m ∷ []) m
one_more a [] z m number left o =
    let low = o.0 in
    let early = o.1 in
    (omega arith, omega arith, (omega arith, omega arith))
one_more a (n ∷ ms) z m number left o = (o.0, o.1, one_more n ms z m number left o.2)

one_less : (a m : Marker) (ms : List Marker) (z : Marker) → AreInOrder a (m ∷ ms) z → AreInOrder a ms z
one_less a m [] z o =
    let number = o.0 in
    let left = o.1 in
    let further = o.2.0 in
    let later = o.2.1 in
    (omega arith, omega arith)
one_less a m (n ∷ ms) z o =
    let number = o.0 in
    let left = o.1 in
    let further = o.2.0 in
    let later = o.2.1 in
    (omega arith, omega arith, o.2.2)

pub fewer : (a : Marker) (n : ℕ) (ms : List Marker) (z : Marker) → AreInOrder a ms z → AreInOrder a (drop n ms) z
fewer a zero ms z o = o
fewer a (suc n) [] z o = o
fewer a (suc n) (m ∷ ms) z o = fewer a n ms z (one_less a m ms z o)

-- ---- a marker that came back, and those after it

abbrev pub IsPart : Marker → List Marker → Marker → ℕ → Type 0
IsPart a [] z most = Unit {0}
IsPart a (m ∷ later) z most = (a.left ≤ m.left) × AreInOrder m later z × (length later + 1 ≤ most)

part_of : (a b : Marker) (rest : List Marker) (z : Marker) (few most : ℕ) → a.left ≤ b.left → few ≤ most → IsPart b rest z few → IsPart a rest z most
part_of a b [] z few most early less p = tt
part_of a b (m ∷ later) z few most early less p =
    let left = p.0 in
    let count = p.2 in
    (omega arith, p.1, omega arith)

pub parts : (a : Marker) (number : ℕ) (ms : List Marker) (z : Marker) (most : ℕ) → AreInOrder a ms z → length ms ≤ most → IsPart a (from_number number ms) z most
parts a number [] z most o few = tt
parts a number (m ∷ ms) z most o few = elim (m.number == number) as (λ b. IsPart a (if b then m ∷ ms else from_number number ms) z most) [
  | true ↦ (o.1, o.2, omega arith)
  | false ↦ part_of a m (from_number number ms) z (length ms) most o.1 (omega arith) (parts m number ms z (length ms) o.2 (omega arith))
]

-- ---- each step

-- what a step does to a clock: it counts so much
pub record Goes (c d : Clock) (count : ℕ) : Type 0 where
  pub sound : IsSound d
  pub same : c.period ≡ d.period
  pub grows : c.skipped ≤ d.skipped
  pub later : c.last.left ≤ d.last.left
  pub shows : reading d ≡ reading c + count

pub stays : (c : Clock) → IsSound c → Goes c c 0
stays c sound = record { sound = sound; same = refl; grows = omega arith; later = omega arith; shows = omega arith }

pub goes_on : (c d e : Clock) (m n k : ℕ) → Goes c d m → Goes d e n → k ≡ m + n → Goes c e k
goes_on c d e m n k cd de is =
    let grows = cd.grows in
    let further = de.grows in
    let later = cd.later in
    let yet = de.later in
    let shows = cd.shows in
    let now = de.shows in
    record { sound = de.sound; same = cd.same ∙ de.same; grows = omega arith; later = omega arith; shows = omega arith }

pub at_least : (n l m : ℕ) → m ≡ max n l → (n ≤ m) × (l ≤ m)
at_least n l m is = (omega arith, omega arith)

pub begun_sound : (period now : ℕ) → IsSound (begun period now)
begun_sound period now = record { few = omega arith; ordered = (omega arith, omega arith); behind = omega arith }

length-room : (ms : List Marker) → length ms ≤ most_away → length (make_room ms) + 1 ≤ most_away
length-room ms few = let e = length-drop (length ms + 1 - most_away) ms in omega arith

pub sent_sound : (c : Clock) (now : ℕ) → IsSound c → IsSound (sent c now)
sent_sound c now sound =
    let m : Marker = record { number = c.last.number + 1; left = time_of c now } in
    let later = (at_least now c.last.left (time_of c now) refl).1 in
    let room = make_room c.away in
    let more = length-append room (m ∷ []) in
    let few = length-room c.away sound.few in
    record {
      few = omega arith;
      ordered = one_more c.back room c.last m (omega arith) later (fewer c.back (length c.away + 1 - most_away) c.away c.last sound.ordered);
      behind = sound.behind;
    }

pub leave_goes : (c : Clock) (now : ℕ) (t : Bool) → IsSound c → Goes c (if t then sent c now else c) 0
leave_goes c now false sound = stays c sound
leave_goes c now true sound = record {
  sound = sent_sound c now sound;
  same = refl;
  grows = omega arith;
  later = (at_least now c.last.left (time_of c now) refl).1;
  shows = omega arith;
}

-- of a gap, what counts and what is lost
pub counts_or_lost : (g p : ℕ) (t : Bool) → (if t then min g (2 * p) else 0) + (if t then g - 2 * p else g) ≡ g
counts_or_lost g p true = omega arith
counts_or_lost g p false = omega arith

pub came_goes : (c : Clock) (rest : List Marker) → IsSound c → IsPart c.back rest c.last most_away → Goes c (came_back c rest) (counted c rest)
came_goes c [] sound part = stays c sound
came_goes c (m ∷ later) sound part =
    let left = part.0 in
    let few = part.2 in
    let behind = sound.behind in
    let whole : counted c (m ∷ later) + lost c m ≡ gap c m = counts_or_lost (gap c m) c.period (m.number == c.back.number + 1) in
    record {
      sound = record { few = omega arith; ordered = part.1; behind = omega arith };
      same = refl;
      grows = omega arith;
      later = omega arith;
      shows = omega arith;
    }

pub return_goes : (c : Clock) (number : ℕ) → IsSound c → Goes c (returned c number) (counted c (from_number number c.away))
return_goes c number sound = came_goes c (from_number number c.away) sound (parts c.back number c.away c.last most_away sound.ordered sound.few)

pub tick_goes : (c : Clock) (t : Tick) → IsSound c → Goes c (ticked c t) (counts c t)
tick_goes c (Leaves now) sound = leave_goes c now (is_due c now) sound
tick_goes c (Returns number) sound = return_goes c number sound

pub all_go : (c : Clock) (ts : List Tick) → IsSound c → Goes c (all_ticked c ts) (all_count c ts)
all_go c [] sound = stays c sound
all_go c (t ∷ ts) sound =
    let one = tick_goes c t sound in
    goes_on c (ticked c t) (all_ticked (ticked c t) ts) (counts c t) (all_count (ticked c t) ts) (counts c t + all_count (ticked c t) ts) one (all_go (ticked c t) ts one.sound) refl

-- ---- what a clock shows

pub back_early : (c : Clock) → IsSound c → c.back.left ≤ c.last.left
back_early c sound = (ends_in_order c.back c.away c.last sound.ordered).1

pub shows_behind : (c : Clock) (now : ℕ) → IsSound c → reading c ≤ at c now
shows_behind c now sound =
    let early = back_early c sound in
    let later = (at_least now c.last.left (time_of c now) refl).1 in
    omega arith

-- what is heard at a time is heard at a reading that is behind it by what was skipped
pub heard_at : (c : Clock) (now : ℕ) → IsSound c → at c now + c.skipped ≡ time_of c now
heard_at c now sound =
    let early = back_early c sound in
    let behind = sound.behind in
    let later = (at_least now c.last.left (time_of c now) refl).1 in
    omega arith

-- a session that is silent was heard a TTL ago
pub silent_since : (d : Clock) (heard skipped time ttl : ℕ) → IsSound d → skipped ≤ d.skipped → time ≤ heard + skipped → is_silent d heard ttl ≡ true
    → time + ttl ≤ d.back.left
silent_since d heard skipped time ttl sound grows was is =
    let behind = sound.behind in
    let over : heard + ttl ≤ reading d = grind (arith, nat_tests) in
    omega arith

-- ---- the laws of one clock

abbrev clock_of : ℕ → ℕ → List Tick → Clock
clock_of period begin ticks = all_ticked (begun period begin) ticks

ticked_sound : (period begin : ℕ) (ticks : List Tick) → IsSound (clock_of period begin ticks)
ticked_sound period begin ticks = (all_go (begun period begin) ticks (begun_sound period begin)).sound

pub skips_more : (period begin : ℕ) (before since : List Tick) → (clock_of period begin before).skipped ≤ (all_ticked (clock_of period begin before) since).skipped
skips_more period begin before since = (all_go (clock_of period begin before) since (ticked_sound period begin before)).grows

pub stays_behind : (period begin now : ℕ) (ticks : List Tick) → reading (clock_of period begin ticks) ≤ at (clock_of period begin ticks) now
stays_behind period begin now ticks = shows_behind (clock_of period begin ticks) now (ticked_sound period begin ticks)

pub silent_for : (period begin heard now ttl : ℕ) (before since : List Tick) → (all_ticked (clock_of period begin before) since).last.left ≤ now
    → is_silent (all_ticked (clock_of period begin before) since) (at (clock_of period begin before) heard) ttl ≡ true → heard + ttl ≤ now
silent_for period begin heard now ttl before since past is =
    let c = clock_of period begin before in
    let d = all_ticked c since in
    let sound = ticked_sound period begin before in
    let goes = all_go c since sound in
    let was = heard_at c heard sound in
    let no_later = (at_least heard c.last.left (time_of c heard) refl).0 in
    let over = silent_since d (at c heard) c.skipped heard ttl goes.sound goes.grows (omega arith) is in
    let early = back_early d goes.sound in
    omega arith

pub shows_more : (period begin : ℕ) (before since : List Tick)
    → reading (all_ticked (clock_of period begin before) since) ≡ reading (clock_of period begin before) + all_count (clock_of period begin before) since
shows_more period begin before since = (all_go (clock_of period begin before) since (ticked_sound period begin before)).shows

pub stays_for : (period begin heard ttl : ℕ) (before since : List Tick)
    → is_silent (all_ticked (clock_of period begin before) since) (at (clock_of period begin before) heard) ttl ≡ true → ttl ≤ all_count (clock_of period begin before) since
stays_for period begin heard ttl before since is =
    let c = clock_of period begin before in
    let d = all_ticked c since in
    let shows = shows_more period begin before since in
    let behind = stays_behind period begin heard before in
    let over : at c heard + ttl ≤ reading d = grind (arith, nat_tests) in
    omega arith

silent_from : (c d : Clock) (heard skipped delay now ttl : ℕ) → IsSound c → IsSound d → c.skipped ≤ d.skipped → c.last.left ≤ heard → d.skipped ≤ c.skipped + skipped
    → now ≤ d.back.left + delay → heard + ttl + skipped + delay ≤ now → is_silent d (at c heard) ttl ≡ true
silent_from c d heard skipped delay now ttl c_sound d_sound grows past lost late long =
    let was = heard_at c heard c_sound in
    let at_time : time_of c heard ≡ heard = omega arith in
    let behind = d_sound.behind in
    let over : at c heard + ttl ≤ reading d = omega arith in
    grind (arith, nat_tests)

pub dead_silent : (period begin heard skipped delay now ttl : ℕ) (before since : List Tick) → (clock_of period begin before).last.left ≤ heard
    → (all_ticked (clock_of period begin before) since).skipped ≤ (clock_of period begin before).skipped + skipped
    → now ≤ (all_ticked (clock_of period begin before) since).back.left + delay → heard + ttl + skipped + delay ≤ now
    → is_silent (all_ticked (clock_of period begin before) since) (at (clock_of period begin before) heard) ttl ≡ true
dead_silent period begin heard skipped delay now ttl before since past lost late long =
    let sound = ticked_sound period begin before in
    let goes = all_go (clock_of period begin before) since sound in
    silent_from (clock_of period begin before) (all_ticked (clock_of period begin before) since) heard skipped delay now ttl sound goes.sound goes.grows past lost late long

none_lost : (c : Clock) (m : Marker) (b : Bool) → (m.number == c.back.number + 1) ≡ b → m.number ≡ c.back.number + 1 → gap c m ≤ 2 * c.period
    → (if b then gap c m - 2 * c.period else gap c m) ≡ 0
none_lost c m true e next near = omega arith
none_lost c m false e next near = absurd (let other : m.number ≢ c.back.number + 1 = grind (arith, nat_tests) in other next)

next_skips : (c : Clock) (rest : List Marker) → IsNext c rest → (came_back c rest).skipped ≡ c.skipped
next_skips c [] next = refl
next_skips c (m ∷ later) next =
    let none : lost c m ≡ 0 = none_lost c m (m.number == c.back.number + 1) refl next.0 next.1 in
    omega arith

leave_skips : (c : Clock) (now : ℕ) (b : Bool) → (if b then sent c now else c).skipped ≡ c.skipped
leave_skips c now true = refl
leave_skips c now false = refl

turn_skips : (c : Clock) (t : Tick) → IsInTurn c t → (ticked c t).skipped ≡ c.skipped
turn_skips c (Leaves now) turn = leave_skips c now (is_due c now)
turn_skips c (Returns number) turn = next_skips c (from_number number c.away) turn

turns_skip : (c : Clock) (ts : List Tick) → AreInTurn c ts → (all_ticked c ts).skipped ≡ c.skipped
turns_skip c [] turns = refl
turns_skip c (t ∷ ts) turns = turns_skip (ticked c t) ts turns.1 ∙ turn_skips c t turns.0

pub skips_none : (period begin : ℕ) (before since : List Tick) → AreInTurn (clock_of period begin before) since
    → (all_ticked (clock_of period begin before) since).skipped ≡ (clock_of period begin before).skipped
skips_none period begin before since turns = turns_skip (clock_of period begin before) since turns

-- ---- what the code writes

pub sound_so : (c : Clock) (now : ℕ) (ms : List Marker) (left : ℕ) → IsSound c → ms ≡ make_room c.away ++ record { number = c.last.number + 1; left = left } ∷ [] → left ≡ time_of c now
    → IsSound (record { period = c.period; skipped = c.skipped; away = ms; last = record { number = c.last.number + 1; left = left }; back = c.back })
sound_so c now ms left sound are is = rw (are, is) (sent_sound c now sound)

-- a marker that is under way comes back
pub record IsFound (c : Clock) (m : Marker) (later : List Marker) : Type 0 where
  pub left : c.back.left ≤ m.left
  pub fits : c.skipped + lost c m ≤ m.left
  pub sound : IsSound (came_back c (m ∷ later))

pub found_sound : (c : Clock) (number : ℕ) (m : Marker) (later : List Marker) → IsSound c → from_number number c.away ≡ m ∷ later → IsFound c m later
found_sound c number m later sound is =
    let part : IsPart c.back (m ∷ later) c.last most_away =
    subst (λ (ms : List Marker). IsPart c.back ms c.last most_away) is (parts c.back number c.away c.last most_away sound.ordered sound.few) in
    let goes = came_goes c (m ∷ later) sound part in
    record { left = part.0; fits = goes.sound.behind; sound = goes.sound }
