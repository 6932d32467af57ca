-- one voter and one session, as the law on one voter and one client sees them
use Rattle.std.proofs.Common.{◌≡◌, ℕ, ◌+◌, ◌*◌, ◌≤◌, true, false, List, [], ◌∷◌, ◌++◌, refl, sym, ap, subst, ◌∙◌, Option, Some, None, arith}
use Rattle.std.specs.Prelude.{zero, suc, ◌==◌, ◌&&◌, nat_lt, not, if◌then◌else◌}
use Rattle.std.specs.List.{AllByRecursion, slice_get}
use Rattle.std.proofs.lemmas.Bool.{false≢true, eq-eqb}
use Rattle.std.proofs.lemmas.Bool.Decides.{nat_tests}
use Rattle.std.proofs.lemmas.Option.{none-some, same_Some}
use Rattle.lease_clock.specs.Clocks.{is_silent}
use Rattle.lease_clock.specs.Leases.{is_among}
use Rattle.lease_clock.specs.Leases as single
use Rattle.lease_clock.proofs.LeaseLemmas.{has_its_grant}
use Rattle.working.specs.Sessions.{Session}
use Rattle.working.specs.Voters.{Acknowledgement, Quiet, Voter, said}
use Rattle.working.proofs.Lists.{and_one, first_among, still_among, weaker}

-- what the laws are given: rates, a TTL, and how long a session goes on
pub record Given : Type 0 where
  pub a : ℕ
  pub b : ℕ
  pub ttl : ℕ
  pub lease : ℕ
  pub stop : ℕ
  pub some : 1 ≤ b
  pub bound : b * (lease + stop) ≤ a * ttl

-- ---- the world of one voter and one client

-- when the heartbeats left that were acknowledged to the session, with at most these lapses
abbrev pub beats_of : ℕ → ℕ → List Acknowledgement → List ℕ
beats_of session most [] = []
beats_of session most (a ∷ others) =
    if (a.session == session) && not (nat_lt most a.lapses) then a.beat ∷ beats_of session most others else beats_of session most others

-- When the session was heard last, with at most these lapses. What a quiet voter hears counts for what it goes on with.
abbrev pub heard_with : ℕ → ℕ → ℕ → Option Quiet → ℕ
heard_with heard now lapses None = heard
heard_with heard now lapses (Some q) = if nat_lt lapses (said now (Some q)) then q.since else heard

-- a grant of these lapses, which is not gone, of a voter that may be quiet
abbrev pub seen_if : ℕ → ℕ → Voter → Session → Option Quiet → single.World
seen_if session lapses v s quiet = record {
  voter_time = v.time;
  client_time = s.time;
  clock = v.clock;
  heard = heard_with (v.heard session) (v.lapses session) lapses quiet;
  is_gone = false;
  beats = s.beats;
  acknowledged = beats_of session lapses v.acknowledged;
  lease = None;
}

abbrev pub seen : ℕ → ℕ → Voter → Session → single.World
seen session lapses v s = seen_if session lapses v s v.quiet

-- ---- worlds that events lead to

pub record IsReached (g : Given) (x : single.World) : Type 0 where
  pub period : ℕ
  pub voter : ℕ
  pub client : ℕ
  pub events : List single.Event
  pub rated : AllByRecursion (single.IsRated g.a g.b) events
  pub is : single.after_all g.ttl (single.begins period voter client) events ≡ x

one_more : (ttl : ℕ) (w : single.World) (es : List single.Event) (e : single.Event) → single.after_all ttl w (es ++ e ∷ []) ≡ single.after ttl (single.after_all ttl w es) e
one_more ttl w [] e = refl
one_more ttl w (x ∷ es) e = one_more ttl (single.after ttl w x) es e

pub goes : (g : Given) (x y : single.World) (e : single.Event) → single.IsRated g.a g.b e → single.after g.ttl x e ≡ y → IsReached g x → IsReached g y
goes g x y e rated is reached = record {
  period = reached.period;
  voter = reached.voter;
  client = reached.client;
  events = reached.events ++ e ∷ [];
  rated = and_one (single.IsRated g.a g.b) reached.events e reached.rated rated;
  is = one_more g.ttl (single.begins reached.period reached.voter reached.client) reached.events e ∙ ap (λ w. single.after g.ttl w e) reached.is ∙ is;
}

-- ---- who is let go has stopped

-- the law on one voter and one client
has_grant : (g : Given) (x : single.World) → IsReached g x → single.is_working g.lease g.stop x ≡ true → x.is_gone ≡ false
has_grant g x reached works =
    subst (λ (w : single.World). single.is_working g.lease g.stop w ≡ true → w.is_gone ≡ false) reached.is
    (has_its_grant g.a g.b g.ttl g.lease g.stop reached.period reached.voter reached.client reached.events g.some reached.rated g.bound) works

-- the voter lets the grant go, and then an acknowledgement reaches the client
abbrev late : single.World → Option ℕ → single.World
late w lease = record w { is_gone = true; lease = lease }

is_over : (now end : ℕ) → (nat_lt now end ≡ true → ⊥) → end ≤ now
is_over now end never = elim (nat_lt now end) as (λ b. nat_lt now end ≡ b → end ≤ now) [
  | true ↦ λ e. absurd (never e)
  | false ↦ λ e. (grind (arith, nat_tests))
] refl

pub stops : (g : Given) (session lapses beat : ℕ) (v : Voter) (s : Session) → is_silent v.clock (heard_with (v.heard session) (v.lapses session) lapses v.quiet) g.ttl ≡ true
    → is_among beat (beats_of session lapses v.acknowledged) ≡ true → IsReached g (seen session lapses v s) → beat + (g.lease + g.stop) ≤ s.time
stops g session lapses beat v s silent told reached =
    let x = seen session lapses v s in
    let gone = goes g x (late x None) single.LetsGo tt (rw silent refl) reached in
    let renewed = goes g (late x None) (late x (Some beat)) (single.Renews beat) tt (rw told refl) gone in
    is_over s.time (beat + (g.lease + g.stop)) (λ works. false≢true (sym (has_grant g (late x (Some beat)) renewed works)))

-- ---- what was acknowledged

pub still_told : (session most beat : ℕ) (a : Acknowledgement) (others : List Acknowledgement) → is_among beat (beats_of session most others) ≡ true
    → is_among beat (beats_of session most (a ∷ others)) ≡ true
still_told session most beat a others is =
    elim ((a.session == session) && not (nat_lt most a.lapses)) as (λ b. is_among beat (if b then a.beat ∷ beats_of session most others else beats_of session most others) ≡ true) [
      | true ↦ still_among beat a.beat (beats_of session most others) is
      | false ↦ is
    ]

not_below : (n : ℕ) → nat_lt n n ≡ false
not_below n = grind (arith, nat_tests)

told_first : (session : ℕ) (a : Acknowledgement) (others : List Acknowledgement) → (a.session == session) ≡ true → is_among a.beat (beats_of session a.lapses (a ∷ others)) ≡ true
told_first session a others same = rw (same, not_below a.lapses) (first_among a.beat (beats_of session a.lapses others))

-- the session was told this
abbrev pub WasTold : ℕ → List Acknowledgement → Acknowledgement → Type 0
WasTold session acknowledged a = is_among a.beat (beats_of session a.lapses acknowledged) ≡ true

pub told_at : (session : ℕ) (others : List Acknowledgement) (place : ℕ) (a : Acknowledgement) → slice_get others place ≡ Some a → (a.session == session) ≡ true → WasTold session others a
told_at session [] place a is same = absurd (none-some a is)
told_at session (b ∷ others) zero a is same = subst (λ (c : Acknowledgement). WasTold session (c ∷ others) a) (sym (same_Some b a is)) (told_first session a others same)
told_at session (b ∷ others) (suc place) a is same = still_told session a.lapses a.beat b others (told_at session others place a is same)

pub all_told : (session : ℕ) (others : List Acknowledgement) → AllByRecursion (λ a. a.session ≡ session → WasTold session others a) others
all_told session [] = tt
all_told session (a ∷ others) = (
  λ own. told_first session a others (eq-eqb a.session session own),
  weaker {Q = λ b. b.session ≡ session → WasTold session (a ∷ others) b} (λ b told own. still_told session b.lapses b.beat a others (told own)) others (all_told session others),
)
