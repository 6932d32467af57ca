-- who works has its grant
use Rattle.std.proofs.Common.{◌≡◌, ℕ, ◌+◌, ◌*◌, ◌≤◌, Bool, true, false, List, [], ◌∷◌, refl, sym, subst, ◌∙◌, Option, Some, None, arith}
use Rattle.std.specs.Prelude.{◌==◌, ◌||◌, max, min, nat_le, nat_lt, if◌then◌else◌}
use Rattle.std.specs.List.{AllByRecursion}
use Rattle.std.proofs.Math.Nat.{mul-add, mul-le-mul_left}
use Rattle.std.proofs.lemmas.Bool.{false≢true}
use Rattle.std.proofs.lemmas.Bool.Decides.{nat_tests}
use Rattle.lease_clock.specs.Clocks.{Clock, IsSound, at, is_due, came_back, from_number, is_silent, leaves, returned, sent, time_of}
use Rattle.lease_clock.specs.declared.marker.Marker.{Marker}
use Rattle.lease_clock.specs.Leases.{Beats, CountsNow, Event, Hears, IsRated, LetsGo, Marked, Marks, Passes, Renews, Restarts, World, after, after_all, beaten, begins, counted_now, hears, is_among, is_working, lasts, lets_go, newer, passed, renews, restarted, with_clock, with_heard}
use Rattle.lease_clock.proofs.ClockLemmas.{Goes, at_least, back_early, begun_sound, heard_at, leave_goes, return_goes, silent_since}

-- ---- what holds of all members

all_more : {P Q : ℕ → Type 0} → ((k : ℕ) → P k → Q k) → (xs : List ℕ) → AllByRecursion P xs → AllByRecursion Q xs
all_more more [] ps = tt
all_more more (x ∷ xs) ps = (more x ps.0, all_more more xs ps.1)

one_of : (P : ℕ → Type 0) (x : ℕ) (xs : List ℕ) → is_among x xs ≡ true → AllByRecursion P xs → P x
one_of P x [] is ps = absurd (false≢true is)
one_of P x (y ∷ ys) is ps = elim (x == y) as (λ b. (x == y) ≡ b → (b || is_among x ys) ≡ true → P x) [
  | true ↦ λ e found. subst P (let same : y ≡ x = grind (arith, nat_tests) in same) ps.0
  | false ↦ λ e found. one_of P x ys found ps.1
] refl is

-- ---- the invariant

-- how the world and the rates are: a, b, and the TTL
pub record Given : Type 0 where
  pub a : ℕ
  pub b : ℕ
  pub ttl : ℕ

-- A heartbeat left at `beat`, by the client's clock, and the voter heard one at `time`, by its own.
-- Since then the voter's clock went on no faster than the rates let it. If the voter let the grant
-- go a TTL has passed since.
pub record IsLate (g : Given) (w : World) (time beat : ℕ) : Type 0 where
  pub slow : g.a * w.voter_time + g.b * beat ≤ g.b * w.client_time + g.a * time
  pub over : w.is_gone ≡ true → g.a * g.ttl + g.b * beat ≤ g.b * w.client_time

abbrev pub IsLease : (ℕ → Type 0) → Option ℕ → Type 0
IsLease P None = Unit {0}
IsLease P (Some lease) = P lease

pub record Holds (g : Given) (w : World) (time : ℕ) : Type 0 where
  pub sound : IsSound w.clock
  pub marked : w.clock.last.left ≤ w.voter_time
  pub past : time ≤ w.voter_time
  pub heard : time ≤ w.heard + w.clock.skipped
  pub beats : AllByRecursion (λ k. k ≤ w.client_time) w.beats
  pub told : AllByRecursion (IsLate g w time) w.acknowledged
  pub lease : IsLease (IsLate g w time) w.lease

pub record Was (g : Given) (w : World) : Type 0 where
  pub time : ℕ
  pub holds : Holds g w time

lease_more : {P Q : ℕ → Type 0} → ((k : ℕ) → P k → Q k) → (o : Option ℕ) → IsLease P o → IsLease Q o
lease_more more None p = tt
lease_more more (Some k) p = more k p

either : (P : ℕ → Type 0) (x y m : ℕ) → m ≡ max x y → P x → P y → P m
either P x y m is px py = elim (nat_le x y) as (λ b. nat_le x y ≡ b → P m) [
  | true ↦ λ e. subst P (let same : y ≡ m = (let below : x ≤ y = grind (arith, nat_tests) in omega arith) in same) py
  | false ↦ λ e. subst P (let same : x ≡ m = (let above : y ≤ x = grind (arith, nat_tests) in omega arith) in same) px
] refl

lease_newer : (P : ℕ → Type 0) (o : Option ℕ) (k : ℕ) → IsLease P o → P k → IsLease P (newer o k)
lease_newer P None k po pk = pk
lease_newer P (Some l) k po pk = either P l k (max l k) refl po pk

-- ---- each event

begin_holds : (g : Given) (period voter client : ℕ) → Was g (begins period voter client)
begin_holds g period voter client = record {
  time = voter;
  holds = record {
    sound = begun_sound period voter;
    marked = omega arith;
    past = omega arith;
    heard = omega arith;
    beats = tt;
    told = tt;
    lease = tt;
  };
}

later_yet : (g : Given) (w : World) (dv dc time : ℕ) → g.a * dv ≤ g.b * dc → (k : ℕ) → IsLate g w time k → IsLate g (passed w dv dc) time k
later_yet g w dv dc time rated k late =
    let slow = late.slow in
    let v = mul-add g.a w.voter_time dv in
    let c = mul-add g.b w.client_time dc in
    record { slow = omega arith; over = λ gone. (let over = late.over gone in omega arith) }

passes : (g : Given) (w : World) (dv dc : ℕ) → g.a * dv ≤ g.b * dc → Was g w → Was g (passed w dv dc)
passes g w dv dc rated was =
    let h = was.holds in
    let marked = h.marked in
    let past = h.past in
    let more = later_yet g w dv dc was.time rated in
    record {
      time = was.time;
      holds = record {
        sound = h.sound;
        marked = omega arith;
        past = omega arith;
        heard = h.heard;
        beats = all_more (λ k (early : k ≤ w.client_time). (omega arith)) w.beats h.beats;
        told = all_more more w.acknowledged h.told;
        lease = lease_more more w.lease h.lease;
      };
    }

same_late : (g : Given) (w x : World) (time : ℕ) → x.voter_time ≡ w.voter_time → x.client_time ≡ w.client_time → x.is_gone ≡ w.is_gone
    → (k : ℕ) → IsLate g w time k → IsLate g x time k
same_late g w x time v c gone k late = record { slow = rw (v, c) late.slow; over = λ is. rw c (late.over (sym gone ∙ is)) }

beats_on : (g : Given) (w : World) → Was g w → Was g (beaten w)
beats_on g w was =
    let h = was.holds in
    let more = same_late g w (beaten w) was.time refl refl refl in
    record {
      time = was.time;
      holds = record {
        sound = h.sound;
        marked = h.marked;
        past = h.past;
        heard = h.heard;
        beats = (omega arith, h.beats);
        told = all_more more w.acknowledged h.told;
        lease = lease_more more w.lease h.lease;
      };
    }

-- the voter takes the session as heard now: each heartbeat before is as late
heard_later : (g : Given) (w x : World) (time : ℕ) → x.voter_time ≡ w.voter_time → x.client_time ≡ w.client_time → x.is_gone ≡ w.is_gone → time ≤ w.voter_time
    → (k : ℕ) → IsLate g w time k → IsLate g x w.voter_time k
heard_later g w x time v c gone past k late =
    let slow = late.slow in
    let up = mul-le-mul_left g.a past in
    record { slow = rw (v, c) (omega arith); over = λ is. rw c (late.over (sym gone ∙ is)) }

-- the new heartbeat did not leave later than now

heard_now : (g : Given) (w : World) (beat : ℕ) → beat ≤ w.client_time → w.is_gone ≡ false → IsLate g (hears w beat) w.voter_time beat
heard_now g w beat early stays =
    let up = mul-le-mul_left g.b early in
    record { slow = omega arith; over = λ gone. absurd (false≢true (sym stays ∙ gone)) }

told_on : (P : ℕ → Type 0) (gone : Bool) (beat : ℕ) (beats : List ℕ) → (gone ≡ false → P beat) → AllByRecursion P beats
    → AllByRecursion P (if gone then beats else beat ∷ beats)
told_on P true beat beats one all = all
told_on P false beat beats one all = (one refl, all)

hears_on : (g : Given) (w : World) (beat : ℕ) → beat ≤ w.client_time → Was g w → Was g (hears w beat)
hears_on g w beat early was =
    let h = was.holds in
    let marked = h.marked in
    let more = heard_later g w (hears w beat) was.time refl refl refl h.past in
    let at_now = heard_at w.clock w.voter_time h.sound in
    let now = (at_least w.voter_time w.clock.last.left (time_of w.clock w.voter_time) refl).0 in
    record {
      time = w.voter_time;
      holds = record {
        sound = h.sound;
        marked = marked;
        past = omega arith;
        heard = omega arith;
        beats = h.beats;
        told = told_on (IsLate g (hears w beat) w.voter_time) w.is_gone beat w.acknowledged (heard_now g w beat early) (all_more more w.acknowledged h.told);
        lease = lease_more more w.lease h.lease;
      };
    }

renews_on : (g : Given) (w : World) (beat : ℕ) → is_among beat w.acknowledged ≡ true → Was g w → Was g (renews w beat)
renews_on g w beat among was =
    let h = was.holds in
    let more = same_late g w (renews w beat) was.time refl refl refl in
    let one = more beat (one_of (IsLate g w was.time) beat w.acknowledged among h.told) in
    record {
      time = was.time;
      holds = record {
        sound = h.sound;
        marked = h.marked;
        past = h.past;
        heard = h.heard;
        beats = h.beats;
        told = all_more more w.acknowledged h.told;
        lease = lease_newer (IsLate g (renews w beat) was.time) w.lease beat (lease_more more w.lease h.lease) one;
      };
    }

clock_on : (g : Given) (w : World) (d : Clock) (count : ℕ) → Goes w.clock d count → d.last.left ≤ w.voter_time → Was g w → Was g (with_clock w d)
clock_on g w d count goes marked was =
    let h = was.holds in
    let heard = h.heard in
    let grows = goes.grows in
    let more = same_late g w (with_clock w d) was.time refl refl refl in
    record {
      time = was.time;
      holds = record {
        sound = goes.sound;
        marked = marked;
        past = h.past;
        heard = omega arith;
        beats = h.beats;
        told = all_more more w.acknowledged h.told;
        lease = lease_more more w.lease h.lease;
      };
    }

either_min : (P : ℕ → Type 0) (x y m : ℕ) → m ≡ min x y → P x → P y → P m
either_min P x y m is px py = elim (nat_le x y) as (λ b. nat_le x y ≡ b → P m) [
  | true ↦ λ e. subst P (let same : x ≡ m = (let below : x ≤ y = grind (arith, nat_tests) in omega arith) in same) px
  | false ↦ λ e. subst P (let same : y ≡ m = (let above : y ≤ x = grind (arith, nat_tests) in omega arith) in same) py
] refl

-- the session counts as heard now
counts_as_now : (g : Given) (w : World) → Was g w → Was g (with_heard w (at w.clock w.voter_time))
counts_as_now g w was =
    let h = was.holds in
    let x = with_heard w (at w.clock w.voter_time) in
    let more = heard_later g w x was.time refl refl refl h.past in
    let at_now = heard_at w.clock w.voter_time h.sound in
    let now = (at_least w.voter_time w.clock.last.left (time_of w.clock w.voter_time) refl).0 in
    record {
      time = w.voter_time;
      holds = record {
        sound = h.sound;
        marked = h.marked;
        past = omega arith;
        heard = omega arith;
        beats = h.beats;
        told = all_more more w.acknowledged h.told;
        lease = lease_more more w.lease h.lease;
      };
    }

counts_on : (g : Given) (w : World) → Was g w → Was g (counted_now w)
counts_on g w was =
    either_min (λ n. Was g (with_heard w n)) w.heard (at w.clock w.voter_time) (min w.heard (at w.clock w.voter_time)) refl was (counts_as_now g w was)

restart_on : (g : Given) (w : World) → Was g w → Was g (restarted w)
restart_on g w was =
    let h = was.holds in
    let more = heard_later g w (restarted w) was.time refl refl refl h.past in
    record {
      time = w.voter_time;
      holds = record {
        sound = begun_sound w.clock.period w.voter_time;
        marked = omega arith;
        past = omega arith;
        heard = omega arith;
        beats = h.beats;
        told = all_more more w.acknowledged h.told;
        lease = lease_more more w.lease h.lease;
      };
    }

-- ---- the voter lets the grant go

-- nothing was heard of the session for a TTL by the voter's clock, and so for as long by the
-- client's, as the rates allow
late_enough : (g : Given) (w : World) (time : ℕ) → time + g.ttl ≤ w.voter_time → (k : ℕ) → IsLate g w time k → IsLate g (lets_go w) time k
late_enough g w time past k late =
    let slow = late.slow in
    let up = mul-le-mul_left g.a past in
    let each = mul-add g.a time g.ttl in
    let over : g.a * g.ttl + g.b * k ≤ g.b * w.client_time = omega arith in
    record { slow = slow; over = λ gone. over }

goes_on : (g : Given) (w : World) → is_silent w.clock w.heard g.ttl ≡ true → Was g w → Was g (lets_go w)
goes_on g w silent was =
    let h = was.holds in
    let marked = h.marked in
    let early = back_early w.clock h.sound in
    let since = silent_since w.clock w.heard w.clock.skipped was.time g.ttl h.sound (omega arith) h.heard silent in
    let more = late_enough g w was.time (omega arith) in
    record {
      time = was.time;
      holds = record {
        sound = h.sound;
        marked = h.marked;
        past = h.past;
        heard = h.heard;
        beats = h.beats;
        told = all_more more w.acknowledged h.told;
        lease = lease_more more w.lease h.lease;
      };
    }

-- ---- markers

marks_in_time : (c : Clock) (now : ℕ) (t : Bool) → c.last.left ≤ now → (if t then sent c now else c).last.left ≤ now
marks_in_time c now false marked = marked
marks_in_time c now true marked = omega arith

comes_in_time : (c : Clock) (rest : List Marker) (now : ℕ) → c.last.left ≤ now → (came_back c rest).last.left ≤ now
comes_in_time c [] now marked = marked
comes_in_time c (m ∷ later) now marked = marked

-- ---- all events

if_so : (g : Given) (w x : World) (t : Bool) → (t ≡ true → Was g x) → Was g w → Was g (if t then x else w)
if_so g w x true one was = one refl
if_so g w x false one was = was

event_on : (g : Given) (w : World) (e : Event) → IsRated g.a g.b e → Was g w → Was g (after g.ttl w e)
event_on g w (Passes voter client) rated was = passes g w voter client rated was
event_on g w Beats rated was = beats_on g w was
event_on g w (Hears beat) rated was =
    if_so g w (hears w beat) (is_among beat w.beats) (λ among. hears_on g w beat (one_of (λ k. k ≤ w.client_time) beat w.beats among was.holds.beats) was) was
event_on g w (Renews beat) rated was = if_so g w (renews w beat) (is_among beat w.acknowledged) (λ among. renews_on g w beat among was) was
event_on g w Marks rated was =
    clock_on g w (leaves w.clock w.voter_time) 0 (leave_goes w.clock w.voter_time (is_due w.clock w.voter_time) was.holds.sound) (marks_in_time w.clock w.voter_time (is_due w.clock w.voter_time) was.holds.marked) was
event_on g w (Marked number) rated was = clock_on g w (returned w.clock number) _ (return_goes w.clock number was.holds.sound) (comes_in_time w.clock (from_number number w.clock.away) w.voter_time was.holds.marked) was
event_on g w CountsNow rated was = counts_on g w was
event_on g w LetsGo rated was = if_so g w (lets_go w) (is_silent w.clock w.heard g.ttl) (λ silent. goes_on g w silent was) was
event_on g w Restarts rated was = restart_on g w was

events_on : (g : Given) (w : World) (es : List Event) → AllByRecursion (IsRated g.a g.b) es → Was g w → Was g (after_all g.ttl w es)
events_on g w [] rated was = was
events_on g w (e ∷ es) rated was = events_on g (after g.ttl w e) es rated.1 (event_on g w e rated.0 was)

-- ---- who works

-- a client whose lease the voter's TTL outlasted does not work
over_in_time : (g : Given) (span now lease : ℕ) → 1 ≤ g.b → g.b * span ≤ g.a * g.ttl → g.a * g.ttl + g.b * lease ≤ g.b * now → nat_lt now (lease + span) ≡ true → ⊥
over_in_time g span now lease some bound over works =
    let more : now + 1 ≤ lease + span = grind (arith, nat_tests) in
    let up = mul-le-mul_left g.b more in
    let first = mul-add g.b now 1 in
    let second = mul-add g.b lease span in
    omega arith

gone_stops : (g : Given) (w : World) (time span : ℕ) (o : Option ℕ) → 1 ≤ g.b → g.b * span ≤ g.a * g.ttl → IsLease (IsLate g w time) o → lasts o span w.client_time ≡ true
    → w.is_gone ≡ true → ⊥
gone_stops g w time span None some bound late works gone = absurd (false≢true works)
gone_stops g w time span (Some lease) some bound late works gone = over_in_time g span w.client_time lease some bound (late.over gone) works

not_so : (t : Bool) → (t ≡ true → ⊥) → t ≡ false
not_so true never = absurd (never refl)
not_so false never = refl

pub has_its_grant : (a b ttl lease stop period voter client : ℕ) (events : List Event) → 1 ≤ b → AllByRecursion (IsRated a b) events → b * (lease + stop) ≤ a * ttl
    → is_working lease stop (after_all ttl (begins period voter client) events) ≡ true → (after_all ttl (begins period voter client) events).is_gone ≡ false
has_its_grant a b ttl lease stop period voter client events some rated bound works =
    let g : Given = record { a = a; b = b; ttl = ttl } in
    let w = after_all ttl (begins period voter client) events in
    let was = events_on g (begins period voter client) events rated (begin_holds g period voter client) in
    not_so w.is_gone (gone_stops g w was.time (lease + stop) w.lease some bound was.holds.lease works)
