-- time, heartbeats and silence keep what holds of a voter and a session
use Rattle.std.proofs.Common.{◌≡◌, ℕ, ◌+◌, ◌*◌, ◌≤◌, ◌<◌, Bool, true, false, List, ◌∷◌, refl, sym, ap, subst, ◌∙◌, Option, Some, None, arith, inl, inr}
use Rattle.std.specs.Prelude.{◌==◌, ◌||◌, ◌&&◌, ◌⊎◌, min, nat_lt, not, if◌then◌else◌}
use Rattle.std.specs.List.{AllByRecursion}
use Rattle.std.proofs.lemmas.Bool.{false≢true, eq-eqb, eqb-true}
use Rattle.std.proofs.lemmas.Bool.Decides.{nat_tests}
use Rattle.std.proofs.lemmas.Option.{same_Some}
use Rattle.lease_clock.specs.Clocks.{at, is_silent, leaves, returned}
use Rattle.lease_clock.specs.Leases.{is_among}
use Rattle.lease_clock.specs.Leases as single
use Rattle.working.specs.Sessions.{Session, beaten, session_later}
use Rattle.working.specs.Voters.{Acknowledgement, Grant, Locked, Quiet, Voter, awake, counts_now, gives_on, heard_from, hears, lapsed, lets_go, lets_other_go, lost, may_let_go, quiet_again, quiet_anew, quiet_by, quiet_counts_now, restarted, said, set, voter_later, with_clock}
use Rattle.working.proofs.Lists.{both_all, not_here, weaker}
use Rattle.working.proofs.Seen.{Given, IsReached, WasTold, all_told, beats_of, goes, heard_with, seen, seen_if, still_told, stops}
use Rattle.working.proofs.Holds.{AreKept, HasStopped, Holds, IsVoid, current_on, keeps}

-- ---- time

pub later_on : (g : Given) (voter session span lag : ℕ) (v : Voter) (s : Session) → g.a * span ≤ g.b * lag → Holds g voter session v s
    → Holds g voter session (voter_later v span) (session_later s lag)
later_on g voter session span lag v s rated h = record {
  reached = λ l most. goes g (seen session l v s) (seen session l (voter_later v span) (session_later s lag)) (single.Passes span lag) rated refl (h.reached l most);
  stopped = weaker {Q = HasStopped g session (voter_later v span) (session_later s lag)} (λ a (stopped : HasStopped g session v s a) own void. (let before = stopped own void in omega arith)) v.acknowledged h.stopped;
  kept = h.kept;
  leases = h.leases;
}

pub marks_on : (g : Given) (voter session : ℕ) (v : Voter) (s : Session) → Holds g voter session v s → Holds g voter session (with_clock v (leaves v.clock v.time)) s
marks_on g voter session v s h = record {
  reached = λ l most. goes g (seen session l v s) (seen session l (with_clock v (leaves v.clock v.time)) s) single.Marks tt refl (h.reached l most);
  stopped = h.stopped;
  kept = h.kept;
  leases = h.leases;
}

pub marked_on : (g : Given) (voter session number : ℕ) (v : Voter) (s : Session) → Holds g voter session v s
    → Holds g voter session (with_clock v (returned v.clock number)) s
marked_on g voter session number v s h = record {
  reached = λ l most. goes g (seen session l v s) (seen session l (with_clock v (returned v.clock number)) s) (single.Marked number) tt refl (h.reached l most);
  stopped = h.stopped;
  kept = h.kept;
  leases = h.leases;
}

-- ---- restarts

same_either : (b : Bool) (n : ℕ) → n ≡ (if b then n else n)
same_either true n = refl
same_either false n = refl

heard_anew : (now most lapses : ℕ) (quiet : Option Quiet) → now ≡ heard_with now most lapses (quiet_anew quiet now)
heard_anew now most lapses None = refl
heard_anew now most lapses (Some q) = same_either (nat_lt lapses (said most (Some q))) now

kept_anew : (other lapses now : ℕ) (current : Option Grant) (quiet : Option Quiet) (ended returned : List ℕ) (left taken : List Locked)
    → AreKept other lapses current quiet ended returned left taken → AreKept other lapses current (quiet_anew quiet now) ended returned left taken
kept_anew other lapses now current None ended returned left taken kept = kept
kept_anew other lapses now current (Some q) ended returned left taken kept =
    keeps other lapses lapses current current (Some q) (Some (record q { since = now })) ended ended returned returned left taken
    (λ k is. record { few = is.few; stands = is.stands; next = is.next; renews = is.renews }) (λ k own is had. had) kept

pub restarts_on : (g : Given) (voter session : ℕ) (v : Voter) (s : Session) → Holds g voter session v s → Holds g voter session (restarted v) s
restarts_on g voter session v s h = record {
  reached = λ l most. goes g (seen session l v s) (seen session l (restarted v) s) single.Restarts tt
      (ap (λ heard. record (single.restarted (seen session l v s)) { heard = heard }) (heard_anew v.time (v.lapses session) l v.quiet)) (h.reached l most);
  stopped = h.stopped;
  kept = kept_anew session (v.lapses session) v.time v.current v.quiet s.ended (s.returned voter) v.told (s.votes voter) h.kept;
  leases = h.leases;
}

-- nobody's number was given on, as far as the voter knows
void_less : (session : ℕ) (v : Voter) (a : Acknowledgement) → (a.lapses < v.lapses session) ⊎ (false ≡ true) → IsVoid session v a
void_less session v a void = elim void [
  | inl less ↦ inl less
  | inr never ↦ absurd (false≢true never)
]

-- nothing was said yet with the lapses that a voter goes on with that lost its state
more_said : (lapses now : ℕ) (quiet : Option Quiet) → said lapses quiet < said lapses (Some (quiet_again quiet now))
more_said lapses now None = omega arith
more_said lapses now (Some q) = omega arith

kept_lost : (other lapses now : ℕ) (current : Option Grant) (quiet : Option Quiet) (ended returned : List ℕ) (left taken : List Locked)
    → AreKept other lapses current quiet ended returned left taken → AreKept other lapses current (Some (quiet_again quiet now)) ended returned left taken
kept_lost other lapses now current quiet ended returned left taken kept =
    let more = more_said lapses now quiet in
    keeps other lapses lapses current current quiet (Some (quiet_again quiet now)) ended ended returned returned left taken
    (λ k is. record {
      few = λ own. (let few = is.few own in omega arith);
      stands = is.stands;
      next = λ own same. (let few = is.few own in absurd (omega arith));
      renews = is.renews;
    })
    (λ k own is had. had) kept

pub lost_on : (g : Given) (voter session : ℕ) (v : Voter) (s : Session) → Holds g voter session v s → Holds g voter session (lost v) s
lost_on g voter session v s h = record {
  reached = λ l most. goes g (seen session l v s) (seen session l (lost v) s) single.Restarts tt
      (ap (λ heard. record (single.restarted (seen session l v s)) { heard = heard }) (same_either (nat_lt l (said (v.lapses session) (Some (quiet_again v.quiet v.time)))) v.time)) (h.reached l most);
  stopped = weaker {Q = HasStopped g session (lost v) s} (λ a (stopped : HasStopped g session v s a) own void. stopped own (void_less session v a void)) v.acknowledged h.stopped;
  kept = kept_lost session (v.lapses session) v.time v.current v.quiet s.ended (s.returned voter) v.told (s.votes voter) h.kept;
  leases = h.leases;
}

-- ---- heartbeats

pub beats_on : (g : Given) (voter session : ℕ) (v : Voter) (s : Session) → Holds g voter session v s → Holds g voter session v (beaten s)
beats_on g voter session v s h = record {
  reached = λ l most. goes g (seen session l v s) (seen session l v (beaten s)) single.Beats tt refl (h.reached l most);
  stopped = h.stopped;
  kept = h.kept;
  leases = h.leases;
}

-- it counts for the lapses that it was acknowledged with, and for more
hears_if : (g : Given) (session l beat : ℕ) (v : Voter) (s : Session) (quiet : Option Quiet) → is_among beat s.beats ≡ true → v.lapses session ≤ l
    → IsReached g (seen_if session l v s quiet)
    → IsReached g (record (seen_if session l v s quiet) {
      heard = heard_with (at v.clock v.time) (v.lapses session) l quiet;
      acknowledged = if true && not (nat_lt l (said (v.lapses session) quiet)) then beat ∷ beats_of session l v.acknowledged else beats_of session l v.acknowledged;
    })
hears_if g session l beat v s None among most reached =
    let low : nat_lt l (v.lapses session) ≡ false = grind (arith, nat_tests) in
    rw low (goes g (seen_if session l v s None) (single.hears (seen_if session l v s None) beat) (single.Hears beat) tt (rw among refl) reached)
hears_if g session l beat v s (Some q) among most reached =
    elim (nat_lt l (said (v.lapses session) (Some q))) as (λ b. IsReached g (record (seen_if session l v s None) { heard = if b then q.since else v.heard session })
    → IsReached g (record (seen_if session l v s None) {
      heard = if b then q.since else at v.clock v.time;
      acknowledged = if true && not b then beat ∷ beats_of session l v.acknowledged else beats_of session l v.acknowledged;
    })) [
      | true ↦ λ r. r
      | false ↦ λ r. goes g (seen_if session l v s None) (single.hears (seen_if session l v s None) beat) (single.Hears beat) tt (rw among refl) r
    ] reached

said_most : (lapses : ℕ) (quiet : Option Quiet) → said lapses quiet < lapses → ⊥
said_most lapses None less = omega arith
said_most lapses (Some q) less = omega arith

hears_here : (g : Given) (voter session beat : ℕ) (v : Voter) (s : Session) → is_among beat s.beats ≡ true → is_among session v.over ≡ false
    → Holds g voter session v s → Holds g voter session (hears v session beat) s
hears_here g voter session beat v s among over h = record {
  reached = λ l most. rw (eq-eqb session session refl) (hears_if g session l beat v s v.quiet among most (h.reached l most));
  stopped = (
    λ own void. elim void [
      | inl less ↦ absurd (said_most (v.lapses session) v.quiet less)
      | inr is ↦ absurd (false≢true (sym over ∙ is))
    ],
    h.stopped,
  );
  kept = h.kept;
  leases = weaker {Q = WasTold session (hears v session beat).acknowledged} (λ a told. still_told session a.lapses a.beat _ v.acknowledged told) (s.leases voter) h.leases;
}

hears_there : (g : Given) (voter session other beat : ℕ) (v : Voter) (s : Session) → (session == other) ≡ false
    → Holds g voter other v s → Holds g voter other (hears v session beat) s
hears_there g voter session other beat v s apart h = record {
  reached = rw apart h.reached;
  stopped = (λ own void. absurd (not_here session other apart own), h.stopped);
  kept = h.kept;
  leases = weaker {Q = WasTold other (hears v session beat).acknowledged} (λ a told. still_told other a.lapses a.beat _ v.acknowledged told) (s.leases voter) h.leases;
}

pub hears_on : (g : Given) (voter session beat other : ℕ) (v : Voter) (sessions : ℕ → Session) → is_among beat (sessions session).beats ≡ true
    → ((o : ℕ) → Holds g voter o v (sessions o)) → Holds g voter other (heard_from v session beat) (sessions other)
hears_on g voter session beat other v sessions among hs =
    elim (is_among session v.over) as (λ b. is_among session v.over ≡ b → Holds g voter other (if b then v else hears v session beat) (sessions other)) [
      | true ↦ λ over. hs other
      | false ↦ λ over. elim (session == other) as (λ b. (session == other) ≡ b → Holds g voter other (hears v session beat) (sessions other)) [
        | true ↦ λ same. subst (λ (o : ℕ). Holds g voter o (hears v session beat) (sessions o)) (eqb-true session other same)
            (hears_here g voter session beat v (sessions session) among over (hs session))
        | false ↦ λ apart. hears_there g voter session other beat v (sessions other) apart (hs other)
      ] refl
    ] refl

-- ---- what the lease clock skipped

-- a voter that is quiet goes on with lapses of which it was heard when that began
counts_if : (g : Given) (session l : ℕ) (v : Voter) (s : Session) (quiet : Option Quiet) → IsReached g (seen_if session l v s quiet)
    → IsReached g (record (seen_if session l v s quiet) { heard = heard_with (min (v.heard session) (at v.clock v.time)) (v.lapses session) l quiet })
counts_if g session l v s None reached =
    goes g (seen_if session l v s None) (single.counted_now (seen_if session l v s None)) single.CountsNow tt refl reached
counts_if g session l v s (Some q) reached =
    elim (nat_lt l (said (v.lapses session) (Some q))) as (λ b. IsReached g (record (seen_if session l v s (Some q)) { heard = if b then q.since else v.heard session })
    → IsReached g (record (seen_if session l v s (Some q)) { heard = if b then q.since else min (v.heard session) (at v.clock v.time) })) [
      | true ↦ λ r. r
      | false ↦ λ r. goes g (seen_if session l v s None) (single.counted_now (seen_if session l v s None)) single.CountsNow tt refl r
    ] reached

counts_here : (g : Given) (voter session : ℕ) (v : Voter) (s : Session) → Holds g voter session v s → Holds g voter session (counts_now v session) s
counts_here g voter session v s h = record {
  reached = λ l most. rw (eq-eqb session session refl) (counts_if g session l v s v.quiet (h.reached l most));
  stopped = h.stopped;
  kept = h.kept;
  leases = h.leases;
}

counts_there : (g : Given) (voter session other : ℕ) (v : Voter) (s : Session) → (session == other) ≡ false
    → Holds g voter other v s → Holds g voter other (counts_now v session) s
counts_there g voter session other v s apart h = record { reached = rw apart h.reached; stopped = h.stopped; kept = h.kept; leases = h.leases }

pub counts_on : (g : Given) (voter session other : ℕ) (v : Voter) (sessions : ℕ → Session) → ((o : ℕ) → Holds g voter o v (sessions o))
    → Holds g voter other (counts_now v session) (sessions other)
counts_on g voter session other v sessions hs =
    elim (session == other) as (λ b. (session == other) ≡ b → Holds g voter other (counts_now v session) (sessions other)) [
      | true ↦ λ same. subst (λ (o : ℕ). Holds g voter o (counts_now v session) (sessions o)) (eqb-true session other same) (counts_here g voter session v (sessions session) (hs session))
      | false ↦ λ apart. counts_there g voter session other v (sessions other) apart (hs other)
    ] refl

-- a quiet time counts as begun now, at the latest
quiet_if : (g : Given) (session l : ℕ) (v : Voter) (s : Session) (quiet : Option Quiet) → IsReached g (seen_if session l v s quiet)
    → IsReached g (seen_if session l v s (quiet_by quiet (at v.clock v.time)))
quiet_if g session l v s None reached = reached
quiet_if g session l v s (Some q) reached =
    elim (nat_lt l (said (v.lapses session) (Some q))) as (λ b. IsReached g (record (seen_if session l v s (Some q)) { heard = if b then q.since else v.heard session })
    → IsReached g (record (seen_if session l v s (Some q)) { heard = if b then min q.since (at v.clock v.time) else v.heard session })) [
      | true ↦ λ r.
          let x = record (seen_if session l v s (Some q)) { heard = q.since } in
          goes g x (single.counted_now x) single.CountsNow tt refl r
      | false ↦ λ r. r
    ] reached

kept_by : (other lapses now : ℕ) (current : Option Grant) (quiet : Option Quiet) (ended returned : List ℕ) (left taken : List Locked)
    → AreKept other lapses current quiet ended returned left taken → AreKept other lapses current (quiet_by quiet now) ended returned left taken
kept_by other lapses now current None ended returned left taken kept = kept
kept_by other lapses now current (Some q) ended returned left taken kept =
    keeps other lapses lapses current current (Some q) (Some (record q { since = min q.since now })) ended ended returned returned left taken
    (λ k is. record { few = is.few; stands = is.stands; next = is.next; renews = is.renews }) (λ k own is had. had) kept

pub quiet_counts_on : (g : Given) (voter session : ℕ) (v : Voter) (s : Session) → Holds g voter session v s → Holds g voter session (quiet_counts_now v) s
quiet_counts_on g voter session v s h = record {
  reached = λ l most. quiet_if g session l v s v.quiet (h.reached l most);
  stopped = h.stopped;
  kept = kept_by session (v.lapses session) (at v.clock v.time) v.current v.quiet s.ended (s.returned voter) v.told (s.votes voter) h.kept;
  leases = h.leases;
}

-- ---- silence

one_stopped : (g : Given) (session : ℕ) (v : Voter) (s : Session) (a : Acknowledgement) → HasStopped g session v s a → WasTold session v.acknowledged a → a.session ≡ session
    → (v.lapses session ≤ a.lapses → is_silent v.clock (heard_with (v.heard session) (v.lapses session) a.lapses v.quiet) g.ttl ≡ true)
    → ((l : ℕ) → v.lapses session ≤ l → IsReached g (seen session l v s)) → a.beat + (g.lease + g.stop) ≤ s.time
one_stopped g session v s a stopped told own silent reached =
    elim (nat_lt a.lapses (v.lapses session)) as (λ b. nat_lt a.lapses (v.lapses session) ≡ b → a.beat + (g.lease + g.stop) ≤ s.time) [
      | true ↦ λ e. stopped own (inl (let less : a.lapses < v.lapses session = grind (arith, nat_tests) in less))
      | false ↦ λ e. (let most : v.lapses session ≤ a.lapses = grind (arith, nat_tests) in
          stops g session a.lapses a.beat v s (silent most) told (reached a.lapses most))
    ] refl

-- a session that is silent has stopped, if it has nothing of other lapses
all_stopped : (g : Given) (voter session : ℕ) (v : Voter) (s : Session) (P : ℕ → Type 0)
    → ((l : ℕ) → v.lapses session ≤ l → P l → is_silent v.clock (heard_with (v.heard session) (v.lapses session) l v.quiet) g.ttl ≡ true)
    → Holds g voter session v s → AllByRecursion (λ a. a.session ≡ session → P a.lapses → a.beat + (g.lease + g.stop) ≤ s.time) v.acknowledged
all_stopped g voter session v s P silent h =
    both_all {P = HasStopped g session v s} {Q = λ a. a.session ≡ session → WasTold session v.acknowledged a} {R = λ a. a.session ≡ session → P a.lapses → a.beat + (g.lease + g.stop) ≤ s.time}
    (λ a stopped told own is. one_stopped g session v s a stopped (told own) own (λ most. silent a.lapses most is) h.reached)
    v.acknowledged h.stopped (all_told session v.acknowledged)

-- a voter that is not quiet may let the session's grants go
abbrev Ended : Given → ℕ → Session → Acknowledgement → Type 0
Ended g session s a = a.session ≡ session → a.beat + (g.lease + g.stop) ≤ s.time

silent_stopped : (g : Given) (voter session : ℕ) (v : Voter) (s : Session) → v.quiet ≡ None → is_silent v.clock (v.heard session) g.ttl ≡ true → Holds g voter session v s
    → AllByRecursion (Ended g session s) v.acknowledged
silent_stopped g voter session v s awake silent h =
    weaker {Q = Ended g session s} (λ a (ended : a.session ≡ session → Unit {0} → a.beat + (g.lease + g.stop) ≤ s.time) own. ended own tt) v.acknowledged
    (all_stopped g voter session v s (λ l. Unit {0}) (λ l most any. rw awake silent) h)

may_stopped : (g : Given) (voter session : ℕ) (v : Voter) (s : Session) → v.quiet ≡ None → (b over : Bool) → is_silent v.clock (v.heard session) g.ttl ≡ b → is_among session v.over ≡ over
    → (b || over) ≡ true → Holds g voter session v s → AllByRecursion (Ended g session s) v.acknowledged
may_stopped g voter session v s awake true over silent is may h = silent_stopped g voter session v s awake silent h
may_stopped g voter session v s awake false over silent is may h =
    weaker {Q = Ended g session s} (λ a (stopped : HasStopped g session v s a) own. stopped own (inr (is ∙ may))) v.acknowledged h.stopped

-- the lapses of the session grow
grown_on : (g : Given) (voter session : ℕ) (v : Voter) (s : Session) (lapses : ℕ → ℕ) (next : Option Grant) → v.lapses session ≤ lapses session
    → ((l : ℕ) → lapses session ≤ l → heard_with (v.heard session) (v.lapses session) l v.quiet ≡ v.heard session)
    → AllByRecursion (λ a. a.session ≡ session → a.lapses < lapses session → a.beat + (g.lease + g.stop) ≤ s.time) v.acknowledged
    → AreKept session (lapses session) next None s.ended (s.returned voter) v.told (s.votes voter)
    → Holds g voter session v s → Holds g voter session (record v { lapses = lapses; current = next; quiet = None }) s
grown_on g voter session v s lapses next more heard stopped kept h = record {
  reached = λ l most. subst (λ (n : ℕ). IsReached g (record (seen session l v s) { heard = n })) (heard l most) (h.reached l (omega arith));
  stopped = both_all {R = HasStopped g session (record v { lapses = lapses; current = next; quiet = None }) s}
      (λ a (was : HasStopped g session v s a) (now : a.session ≡ session → a.lapses < lapses session → a.beat + (g.lease + g.stop) ≤ s.time) own void. elim void [
        | inl less ↦ now own less
        | inr over ↦ was own (inr over)
      ]) v.acknowledged h.stopped stopped;
  kept = kept;
  leases = h.leases;
}

-- no grant has so many lapses
kept_grown : (session lapses later : ℕ) (current next : Option Grant) (ended returned : List ℕ) (left taken : List Locked) → later ≡ lapses + 1
    → AreKept session lapses current None ended returned left taken → AreKept session later next None ended returned left taken
kept_grown session lapses later current next ended returned left taken more kept =
    keeps session lapses later current next None None ended ended returned returned left taken
    (λ k is. record {
      few = λ own. (let few = is.few own in omega arith);
      stands = λ own same. (let few = is.few own in absurd (omega arith));
      next = is.next;
      renews = λ own less. (let few = is.few own in absurd (omega arith));
    })
    (λ k own is had less. (let few = is.few own in absurd (omega arith))) kept

-- of the lapses that a quiet voter goes on with it has the grant that it gave meanwhile
kept_awake : (session lapses : ℕ) (current : Option Grant) (q : Quiet) (ended returned : List ℕ) (left taken : List Locked)
    → AreKept session lapses current (Some q) ended returned left taken → AreKept session (said lapses (Some q)) q.kept None ended returned left taken
kept_awake session lapses current q ended returned left taken kept =
    keeps session lapses (said lapses (Some q)) current q.kept (Some q) None ended ended returned returned left taken
    (λ k is. record {
      few = is.few;
      stands = λ own same. is.next own same;
      next = λ own. tt;
      renews = λ own less. (let few = is.few own in absurd (omega arith));
    })
    (λ k own is had less. (let few = is.few own in absurd (omega arith))) kept

awake_kept : (voter session : ℕ) (v : Voter) (s : Session) (quiet : Option Quiet) → v.quiet ≡ quiet
    → AreKept session (v.lapses session) v.current v.quiet s.ended (s.returned voter) v.told (s.votes voter)
    → AreKept session (v.lapses session) v.current quiet s.ended (s.returned voter) v.told (s.votes voter)
awake_kept voter session v s quiet is kept =
    subst (λ (x : Option Quiet). AreKept session (v.lapses session) v.current x s.ended (s.returned voter) v.told (s.votes voter)) is kept

lapsed_here : (g : Given) (voter session : ℕ) (v : Voter) (s : Session) (next : Option Grant) → v.quiet ≡ None → may_let_go g.ttl v session ≡ true
    → Holds g voter session v s → Holds g voter session (lapsed v session next) s
lapsed_here g voter session v s next awake may h =
    let lapses = set v.lapses session (v.lapses session + 1) in
    let stopped = may_stopped g voter session v s awake (is_silent v.clock (v.heard session) g.ttl) (is_among session v.over) refl refl may h in
    let more : lapses session ≡ v.lapses session + 1 = rw (eq-eqb session session refl) refl in
    subst (λ (quiet : Option Quiet). Holds g voter session (record v { lapses = lapses; current = next; quiet = quiet }) s) (sym awake)
    (grown_on g voter session v s lapses next (omega arith) (λ l most. rw awake refl)
    (weaker {Q = λ a. a.session ≡ session → a.lapses < lapses session → a.beat + (g.lease + g.stop) ≤ s.time} (λ a (ended : Ended g session s a) own less. ended own) v.acknowledged stopped)
    (kept_grown session (v.lapses session) (lapses session) v.current next s.ended (s.returned voter) v.told (s.votes voter) more (awake_kept voter session v s None awake h.kept)) h)

-- what is void by these lapses, and of the session, is so by equal ones
void_as : (l n m : ℕ) (b c : Bool) → n ≡ m → b ≡ c → (l < n) ⊎ (b ≡ true) → (l < m) ⊎ (c ≡ true)
void_as l n m b c same alike void = elim void [
  | inl less ↦ inl (subst (λ (x : ℕ). l < x) same less)
  | inr is ↦ inr (sym alike ∙ is)
]

lapsed_there : (g : Given) (voter session other : ℕ) (v : Voter) (s : Session) (next : Option Grant) → v.quiet ≡ None → (session == other) ≡ false
    → ((grant : Grant) → grant.session ≡ other → v.current ≡ Some grant → next ≡ Some grant)
    → Holds g voter other v s → Holds g voter other (lapsed v session next) s
lapsed_there g voter session other v s next awake apart stays h = record {
  reached = rw apart h.reached;
  stopped = weaker {Q = HasStopped g other (lapsed v session next) s} (λ a (was : HasStopped g other v s a) own void. was own
      (void_as a.lapses (set v.lapses session (v.lapses session + 1) other) (v.lapses other) (is_among other v.over) (is_among other v.over) (rw apart refl) refl void)) v.acknowledged h.stopped;
  kept = rw (apart, awake) (current_on other (v.lapses other) v.current next s.ended (s.returned voter) v.told (s.votes voter) (λ grant own is. inl (stays grant own is)) (awake_kept voter other v s None awake h.kept));
  leases = h.leases;
}

lapsed_on : (g : Given) (voter session other : ℕ) (v : Voter) (s : Session) (next : Option Grant) → v.quiet ≡ None → may_let_go g.ttl v session ≡ true
    → ((session == other) ≡ false → (grant : Grant) → grant.session ≡ other → v.current ≡ Some grant → next ≡ Some grant)
    → Holds g voter other v s → Holds g voter other (lapsed v session next) s
lapsed_on g voter session other v s next awake may stays h =
    elim (session == other) as (λ b. (session == other) ≡ b → Holds g voter other (lapsed v session next) s) [
      | true ↦ λ same. let is = eqb-true session other same in
          subst (λ (o : ℕ). Holds g voter o (lapsed v session next) s) is (lapsed_here g voter session v s next awake may (subst (λ (o : ℕ). Holds g voter o v s) (sym is) h))
      | false ↦ λ apart. lapsed_there g voter session other v s next awake apart (stays apart) h
    ] refl

pub lets_go_on : (g : Given) (voter other : ℕ) (v : Voter) (s : Session) (o : Option Grant) → v.current ≡ o → v.quiet ≡ None → Holds g voter other v s → Holds g voter other (lets_go g.ttl v o) s
lets_go_on g voter other v s None is awake h = h
lets_go_on g voter other v s (Some grant) is awake h =
    elim (may_let_go g.ttl v grant.session) as (λ b. may_let_go g.ttl v grant.session ≡ b → Holds g voter other (if b then lapsed v grant.session None else v) s) [
      | true ↦ λ may. lapsed_on g voter grant.session other v s None awake may
          (λ apart was own is_was. absurd (not_here grant.session other apart (ap (λ x. x.session) (same_Some grant was (sym is ∙ is_was)) ∙ own))) h
      | false ↦ λ may. h
    ] refl

pub lets_other_on : (g : Given) (voter session other : ℕ) (v : Voter) (s : Session) → v.quiet ≡ None → Holds g voter other v s → Holds g voter other (lets_other_go g.ttl v session) s
lets_other_on g voter session other v s awake h =
    elim (may_let_go g.ttl v session) as (λ b. may_let_go g.ttl v session ≡ b → Holds g voter other (if b then lapsed v session v.current else v) s) [
      | true ↦ λ may. lapsed_on g voter session other v s v.current awake may (λ apart was own is_was. is_was) h
      | false ↦ λ may. h
    ] refl

-- ---- a number is given on

given_here : (g : Given) (voter session : ℕ) (v : Voter) (s : Session) → v.quiet ≡ None → is_silent v.clock (v.heard session) g.ttl ≡ true
    → Holds g voter session v s → Holds g voter session (record v { over = session ∷ v.over }) s
given_here g voter session v s awake silent h = record {
  reached = h.reached;
  stopped = weaker {Q = HasStopped g session (record v { over = session ∷ v.over }) s} (λ a (ended : Ended g session s a) own void. ended own) v.acknowledged (silent_stopped g voter session v s awake silent h);
  kept = h.kept;
  leases = h.leases;
}

given_there : (g : Given) (voter session other : ℕ) (v : Voter) (s : Session) → (other == session) ≡ false
    → Holds g voter other v s → Holds g voter other (record v { over = session ∷ v.over }) s
given_there g voter session other v s apart h = record {
  reached = h.reached;
  stopped = weaker {Q = HasStopped g other (record v { over = session ∷ v.over }) s} (λ a (was : HasStopped g other v s a) own void. was own
      (void_as a.lapses (v.lapses other) (v.lapses other) (is_among other (session ∷ v.over)) (is_among other v.over) refl (rw apart refl) void)) v.acknowledged h.stopped;
  kept = h.kept;
  leases = h.leases;
}

pub gives_on_on : (g : Given) (voter session other : ℕ) (v : Voter) (s : Session) → v.quiet ≡ None → Holds g voter other v s → Holds g voter other (gives_on g.ttl v session) s
gives_on_on g voter session other v s awake h =
    elim (is_silent v.clock (v.heard session) g.ttl) as (λ b. is_silent v.clock (v.heard session) g.ttl ≡ b → Holds g voter other (if b then record v { over = session ∷ v.over } else v) s) [
      | false ↦ λ silent. h
      | true ↦ λ silent. elim (other == session) as (λ b. (other == session) ≡ b → Holds g voter other (record v { over = session ∷ v.over }) s) [
        | true ↦ λ same. let is = eqb-true other session same in
            subst (λ (o : ℕ). Holds g voter o (record v { over = session ∷ v.over }) s) (sym is) (given_here g voter session v s awake silent (subst (λ (o : ℕ). Holds g voter o v s) is h))
        | false ↦ λ apart. given_there g voter session other v s apart h
      ] refl
    ] refl

-- ---- a quiet time ends

heard_next : (heard now l : ℕ) (q : Quiet) → said now (Some q) ≤ l → heard_with heard now l (Some q) ≡ heard
heard_next heard now l q most = let low : nat_lt l (said now (Some q)) ≡ false = grind (arith, nat_tests) in rw low refl

heard_before : (heard now l : ℕ) (q : Quiet) → l < said now (Some q) → heard_with heard now l (Some q) ≡ q.since
heard_before heard now l q less = let low : nat_lt l (said now (Some q)) ≡ true = grind (arith, nat_tests) in rw low refl

pub awake_on : (g : Given) (voter session : ℕ) (v : Voter) (s : Session) (quiet : Option Quiet) → v.quiet ≡ quiet → Holds g voter session v s → Holds g voter session (awake g.ttl v quiet) s
awake_on g voter session v s None is h = h
awake_on g voter session v s (Some q) is h =
    elim (is_silent v.clock q.since g.ttl) as (λ b. is_silent v.clock q.since g.ttl ≡ b
    → Holds g voter session (if b then record v { lapses = λ o. said (v.lapses o) (Some q); current = q.kept; quiet = None } else v) s) [
      | true ↦ λ silent. grown_on g voter session v s (λ o. said (v.lapses o) (Some q)) q.kept (omega arith) (λ l most. rw is (heard_next (v.heard session) (v.lapses session) l q most))
          (all_stopped g voter session v s (λ l. l < said (v.lapses session) (Some q))
          (λ l most less. rw (is, heard_before (v.heard session) (v.lapses session) l q less) silent) h)
          (kept_awake session (v.lapses session) v.current q s.ended (s.returned voter) v.told (s.votes voter) (awake_kept voter session v s (Some q) is h.kept)) h
      | false ↦ λ silent. h
    ] refl
