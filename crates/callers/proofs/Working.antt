-- whoever was told that it has the lock has its votes, until it gives them back
use Rattle.std.proofs.Common.{◌≡◌, ℕ, ◌+◌, ◌*◌, ◌≤◌, ◌<◌, Bool, true, false, List, [], ◌∷◌, refl, sym, ap, subst, ◌∙◌, inl, inr, Option, Some, None, arith}
use Rattle.std.specs.Prelude.{◌==◌, ◌&&◌, ◌||◌, is_some, max, not, if◌then◌else◌}
use Rattle.std.specs.List.{AllByRecursion, list_all, slice_get}
use Rattle.std.proofs.lemmas.Bool.{eqb-true, eq-eqb, false≢true}
use Rattle.std.proofs.lemmas.Option.{none-some, same_Some}
use Rattle.lease_clock.specs.Leases.{is_among}
use Rattle.working.specs.Events.{Beats, CountsNow, DoMeet, Ends, Event, GivesBack, GivesOn, Gives, Hears, IsOneOf, IsRated, Keeps, LetsGo, LetsOtherGo, Loses, Marked, Marks, Passes, QuietCountsNow, Released, Relinquished, Renews, Restarts, Takes, Tells as TellsAgain, Wakes, Works, World, after, after_all, begins, with_voter}
use Rattle.working.specs.Sessions.{Session, beaten, has_ended, has_returned, has_vote, renews, takes}
use Rattle.working.specs.Voters.{Acknowledgement, Locked as Message, ends, heard_from, is_of_number, is_of_request, set}
use Rattle.working.proofs.Lists.{one_of, set_by}
use Rattle.working.proofs.Working.{one_works}
use Rattle.vote_leases.specs.Leases.{beat_of}
use Rattle.vote_leases.specs.Sessions.{AreTold, Asks, Happens, Holds, IsToldAt, Kept, Learns, Step, events_of}
use Rattle.vote_leases.specs.declared.incarnation.Incarnation.{Incarnation}
use Rattle.vote_leases.proofs.Evidence.{Counted, and_true, counted_votes, more_leases, more_votes, one_of_max, stands_counted}
use Rattle.vote_leases.proofs.Stands.{begun_stands}
use Rattle.vote_leases.proofs.Steps.{IsKept as StandsFor, step_on}
use Rattle.vote_leases.proofs.Told.{end_before}
use Rattle.callers.specs.Calls.{handed, has_lock, is_under, may_end, may_hand}
use Rattle.callers.specs.Steps.{CallStep, Closes, Empties, Hands, HasLock, MayBeLost, RefusesTries, Unlocks, Unwants, Wants, call_stepped}
use Rattle.callers.specs.Worlds.{AllAsTold, CallWorks, Caller, CallerStep, ToCalls, CountsTo, EndsLater, InWorld, HasVotesTo, IfOwn, IsHanded, StepsLater, TellsUntil, begun_caller, caller_after, caller_then, steps_of, until_then, world_then}
use Rattle.callers.specs.declared.calls.Calls.{Calls}
use Rattle.callers.specs.declared.calls.Holder.{Holder}
use Rattle.callers.specs.declared.calls.Phase.TheVariants.{Idle, Asking, Inside}
use Rattle.callers.proofs.CallLemmas.{handed_has, loses_had, not_handed_had, refuses_had, unlocks_had, unwants_had, wants_had}

-- ---- what a call has been told stands for messages that its session took

-- the session took a LOCKED of this voter for the request, did not give it back, and a heartbeat was acknowledged for it that counts up to this time
abbrev Evidence : ℕ → Session → ℕ → ℕ → ℕ → Type 0
Evidence lease s request until voter =
    (beat : ℕ) × Counted (s.votes voter) (s.leases voter) (s.returned voter) request beat × (until ≤ beat + lease)

record HasEvidence (lease : ℕ) (quorums : List (List ℕ)) (s : Session) (request until : ℕ) : Type 0 where
  quorum : List ℕ
  is_quorum : IsOneOf quorum quorums
  goes_on : is_among request s.ended ≡ false
  counted : (voter : ℕ) → IsOneOf voter quorum → Evidence lease s request until voter

-- the call that has the lock has that for the time that it was told
abbrev HasTold : ℕ → List (List ℕ) → Caller → Session → Type 0
HasTold lease quorums o s = (request : ℕ) → HasLock o.calls request → HasEvidence lease quorums s request o.until

-- ---- what a session takes, and does, for other requests

-- what stands for a vote of this request stands for it afterwards
record Stays (request : ℕ) (s next : Session) : Type 0 where
  counted : (voter beat : ℕ) → Counted (s.votes voter) (s.leases voter) (s.returned voter) request beat
      → Counted (next.votes voter) (next.leases voter) (next.returned voter) request beat
  goes_on : is_among request s.ended ≡ false → is_among request next.ended ≡ false

same_stays : (request : ℕ) (s : Session) → Stays request s s
same_stays request s = record { counted = λ voter beat c. c; goes_on = λ on. on }

has_on : (lease : ℕ) (quorums : List (List ℕ)) (s next : Session) (request until : ℕ) → Stays request s next → HasEvidence lease quorums s request until
    → HasEvidence lease quorums next request until
has_on lease quorums s next request until stays has = record {
  quorum = has.quorum;
  is_quorum = has.is_quorum;
  goes_on = stays.goes_on has.goes_on;
  counted = λ voter among. (let e = has.counted voter among in (e.0, stays.counted voter e.0 e.1, e.2));
}

-- a step of a session, of this one or of another one
own_stays : (request session me : ℕ) (sessions : ℕ → Session) (next : ℕ → Session) → ((session == me) ≡ true → Stays request (sessions me) (next me))
    → Stays request (sessions me) (set sessions session (next session) me)
own_stays request session me sessions next steps =
    elim (session == me) as (λ b. (session == me) ≡ b → Stays request (sessions me) (if b then next session else sessions me)) [
      | false ↦ λ e. same_stays request (sessions me)
      | true ↦ λ e. subst (λ (x : ℕ). Stays request (sessions me) (next x)) (sym (eqb-true session me e)) (steps e)
    ] refl

renews_stays : (request me place : ℕ) (s : Session) (o : Option Acknowledgement) → Stays request s (renews me s place o)
renews_stays request me place s None = same_stays request s
renews_stays request me place s (Some a) =
    elim (a.session == me) as (λ b. Stays request s (if b then record s { leases = set s.leases place (a ∷ s.leases place) } else s)) [
      | false ↦ same_stays request s
      | true ↦ record {
        counted = λ voter beat c.
            set_by (λ v leases. Counted (s.votes v) (s.leases v) (s.returned v) request beat → Counted (s.votes v) leases (s.returned v) request beat) s.leases place (a ∷ s.leases place) voter
            (λ had. more_leases a (s.votes place) (s.leases place) (s.returned place) request beat had) (λ apart had. had) c;
        goes_on = λ on. on;
      }
    ]

takes_stays : (span request me place : ℕ) (s : Session) (o : Option Message) → Stays request s (takes span me s place o)
takes_stays span request me place s None = same_stays request s
takes_stays span request me place s (Some m) =
    elim ((m.grant.session == me) && (not m.renews || has_vote span s m.grant.request place)) as
    (λ b. Stays request s (if b then record s { votes = set s.votes place (m ∷ s.votes place) } else s)) [
      | false ↦ same_stays request s
      | true ↦ record {
        counted = λ voter beat c.
            set_by (λ v votes. Counted (s.votes v) (s.leases v) (s.returned v) request beat → Counted votes (s.leases v) (s.returned v) request beat) s.votes place (m ∷ s.votes place) voter
            (λ had. more_votes m (s.votes place) (s.leases place) (s.returned place) request beat had) (λ apart had. had) c;
        goes_on = λ on. on;
      }
    ]

ended_stays : (request ended : ℕ) (s : Session) → (request ≡ ended → ⊥) → Stays request s (has_ended s ended)
ended_stays request ended s other = record {
  counted = λ voter beat c. c;
  goes_on = λ on. elim (request == ended) as (λ b. (request == ended) ≡ b → (b || is_among request s.ended) ≡ false) [
    | false ↦ λ e. on
    | true ↦ λ e. absurd (other (eqb-true request ended e))
  ] refl;
}

-- ---- each event

if_world : (request me : ℕ) (b : Bool) (w next : World) → Stays request (w.sessions me) (next.sessions me) → Stays request (w.sessions me) ((if b then next else w).sessions me)
if_world request me true w next stays = stays
if_world request me false w next stays = same_stays request (w.sessions me)

so_if : (b : Bool) (P : Type 0) → IfOwn b P → b ≡ true → P
so_if true P has is = has
so_if false P has is = absurd (false≢true is)

not_ended : (c : Calls) (request : ℕ) → HasLock c request → may_end c request ≡ true → ⊥
not_ended c request has may = false≢true (sym (ap (λ (o : Option Holder). not (is_under o request)) has.1 ∙ ap not (eq-eqb has.0.request request has.2)) ∙ may)

none_free : (c : Calls) (request : ℕ) → HasLock c request → has_lock c ≡ false → ⊥
none_free c request has free = false≢true (sym free ∙ ap is_some has.1)

event_stays : (ttl span me request : ℕ) (w : World) (c : Calls) (e : Event) → HasLock c request → EndsLater me c e → Stays request (w.sessions me) ((after ttl span w e).sessions me)
event_stays ttl span me request w c (Passes voters sessions) has later = record { counted = λ voter beat c. c; goes_on = λ on. on }
event_stays ttl span me request w c (Beats session) has later =
    own_stays request session me w.sessions (λ x. beaten (w.sessions x)) (λ e. record { counted = λ voter beat c. c; goes_on = λ on. on })
event_stays ttl span me request w c (Hears session voter time) has later =
    if_world request me (is_among time (w.sessions session).beats) w (with_voter w voter (heard_from (w.voters voter) session time)) (same_stays request (w.sessions me))
event_stays ttl span me request w c (Renews session voter place) has later =
    own_stays request session me w.sessions (λ x. renews x (w.sessions x) voter (slice_get (w.voters voter).acknowledged place))
    (λ e. renews_stays request me voter (w.sessions me) (slice_get (w.voters voter).acknowledged place))
event_stays ttl span me request w c (Marks voter) has later = same_stays request (w.sessions me)
event_stays ttl span me request w c (Marked voter number) has later = same_stays request (w.sessions me)
event_stays ttl span me request w c (CountsNow session voter) has later = same_stays request (w.sessions me)
event_stays ttl span me request w c (QuietCountsNow voter) has later = same_stays request (w.sessions me)
event_stays ttl span me request w c (Gives session voter asked number) has later = same_stays request (w.sessions me)
event_stays ttl span me request w c (TellsAgain voter) has later = same_stays request (w.sessions me)
event_stays ttl span me request w c (Takes session voter place) has later =
    own_stays request session me w.sessions (λ x. takes span x (w.sessions x) voter (slice_get (w.voters voter).told place))
    (λ e. takes_stays span request me voter (w.sessions me) (slice_get (w.voters voter).told place))
event_stays ttl span me request w c (Ends session ended) has later =
    own_stays request session me w.sessions (λ x. has_ended (w.sessions x) ended)
    (λ e. ended_stays request ended (w.sessions me)
    (λ same. not_ended c ended (subst (λ (r : ℕ). HasLock c r) same has) (so_if (session == me) (may_end c ended ≡ true) later e)))
event_stays ttl span me request w c (Released session voter ended) has later =
    if_world request me (is_among ended (w.sessions session).ended) w (with_voter w voter (ends (w.voters voter) (w.voters voter).quiet (is_of_request session ended))) (same_stays request (w.sessions me))
event_stays ttl span me request w c (GivesBack session voter number) has later =
    own_stays request session me w.sessions (λ x. has_returned (w.sessions x) voter number)
    (λ e. absurd (none_free c request has (so_if (session == me) (has_lock c ≡ false) later e)))
event_stays ttl span me request w c (Relinquished session voter number) has later =
    if_world request me (is_among number ((w.sessions session).returned voter)) w (with_voter w voter (ends (w.voters voter) (w.voters voter).quiet (is_of_number session number))) (same_stays request (w.sessions me))
event_stays ttl span me request w c (LetsGo voter) has later = same_stays request (w.sessions me)
event_stays ttl span me request w c (LetsOtherGo session voter) has later = same_stays request (w.sessions me)
event_stays ttl span me request w c (GivesOn session voter) has later = same_stays request (w.sessions me)
event_stays ttl span me request w c (Restarts voter) has later = same_stays request (w.sessions me)
event_stays ttl span me request w c (Loses voter) has later = same_stays request (w.sessions me)
event_stays ttl span me request w c (Keeps session voter asked number) has later = same_stays request (w.sessions me)
event_stays ttl span me request w c (Wakes voter) has later = same_stays request (w.sessions me)

step_stays : (ttl span lease me request : ℕ) (w : World) (o : Caller) (s : Step) → HasLock o.calls request → StepsLater me o.calls s
    → Stays request (w.sessions me) ((world_then ttl span w (InWorld s)).sessions me)
step_stays ttl span lease me request w o (Happens e i) has later = event_stays ttl span me request w o.calls e has later
step_stays ttl span lease me request w o (Asks session asked) has later = same_stays request (w.sessions me)
step_stays ttl span lease me request w o (Learns session voter i) has later = same_stays request (w.sessions me)
step_stays ttl span lease me request w o (Holds session voter) has later = same_stays request (w.sessions me)

-- ---- what a call is told, by what its session keeps

told_evidence : (tell : ℕ → Incarnation → ℕ) (lease request time voter : ℕ) (k : Kept) (s : Session) → StandsFor tell k s → CountsTo lease k request time voter
    → Evidence lease s request time voter × (is_among request s.ended ≡ false)
told_evidence tell lease request time voter k s is has =
    let v = k.votes voter in
    let l = k.leases voter in
    let stands = is voter in
    let found = end_before (beat_of v.taken l) lease has.2 has.3 in
    let before = has.4 in
    let least = found.2 in
    let counted = stands_counted (tell voter) l v (s.votes voter) (s.leases voter) s.ended (s.returned voter) found.0 stands found.1 in (
      (found.0, subst (λ (r : ℕ). Counted (s.votes voter) (s.leases voter) (s.returned voter) r found.0) has.1 counted, (omega arith)),
      subst (λ (r : ℕ). is_among r s.ended ≡ false) has.1 (stands.goes_on has.0),
    )

-- a quorum that meets itself has a voter, so the request goes on
votes_evidence : (tell : ℕ → Incarnation → ℕ) (lease request time : ℕ) (quorums : List (List ℕ)) (k : Kept) (s : Session) → DoMeet quorums → StandsFor tell k s
    → HasVotesTo lease quorums k request time → HasEvidence lease quorums s request time
votes_evidence tell lease request time quorums k s meet is has =
    let shared = meet has.quorum has.quorum has.is_quorum has.is_quorum in
    let one = one_of (CountsTo lease k request time) has.quorum in record {
      quorum = has.quorum;
      is_quorum = has.is_quorum;
      goes_on = (told_evidence tell lease request time shared.0 k s is (one shared.0 has.counts shared.1)).1;
      counted = λ voter among. (told_evidence tell lease request time voter k s is (one voter has.counts among)).0;
    }

-- ---- each step

-- what holds of a session with its calls
record HoldsOf (tell : ℕ → Incarnation → ℕ) (lease : ℕ) (quorums : List (List ℕ)) (o : Caller) (s : Session) : Type 0 where
  kept : StandsFor tell o.kept s
  told : HasTold lease quorums o s

goes_on : (lapses : ℕ → ℕ → Incarnation → ℕ) (ttl lease stop me : ℕ) (quorums : List (List ℕ)) (w : World) (o : Caller) (s : Step) → IsToldAt lapses w s → StepsLater me o.calls s
    → HoldsOf (lapses me) lease quorums o (w.sessions me)
    → HoldsOf (lapses me) lease quorums (caller_then lease me w o (InWorld s)) ((world_then ttl (lease + stop) w (InWorld s)).sessions me)
goes_on lapses ttl lease stop me quorums w o s told later holds = record {
  kept = step_on lapses ttl lease stop me w o.kept s told holds.kept;
  told = λ request has.
      has_on lease quorums (w.sessions me) ((world_then ttl (lease + stop) w (InWorld s)).sessions me) request o.until (step_stays ttl (lease + stop) lease me request w o s has later) (holds.told request has);
}

-- one call has the lock
only_one : (c : Calls) (request other : ℕ) → HasLock c request → HasLock c other → request ≡ other
only_one c request other one two = sym one.2 ∙ ap (λ (h : Holder). h.request) (same_Some one.0 two.0 (sym one.1 ∙ two.1)) ∙ two.2

-- something comes to a session's calls
comes_told : (tell : ℕ → Incarnation → ℕ) (lease : ℕ) (quorums : List (List ℕ)) (o : Caller) (session : Session) (s : CallStep) (time : ℕ) → DoMeet quorums
    → IsHanded lease quorums o s time → HoldsOf tell lease quorums o session
    → HasTold lease quorums (record { kept = o.kept; calls = call_stepped o.calls s; until = until_then o.calls s time o.until }) session
comes_told tell lease quorums o session (Wants phase tries) time meet is holds = λ request has. holds.told request (wants_had o.calls phase tries request has)
comes_told tell lease quorums o session (Unwants tries) time meet is holds = λ request has. holds.told request (unwants_had o.calls tries request has)
comes_told tell lease quorums o session (RefusesTries phase) time meet is holds = λ request has. holds.told request (refuses_had o.calls phase request has)
comes_told tell lease quorums o session (Hands Idle counts) time meet is holds = λ request has. holds.told request has
comes_told tell lease quorums o session (Hands Asking counts) time meet is holds = λ request has. holds.told request has
comes_told tell lease quorums o session (Hands (Inside under) counts) time meet is holds = λ request has.
    elim (may_hand o.calls (Inside under) counts) as (λ b. may_hand o.calls (Inside under) counts ≡ b → HasEvidence lease quorums session request (if b then time else o.until)) [
      | true ↦ λ e.
          votes_evidence tell lease request time quorums o.kept session meet holds.kept
          (subst (λ (r : ℕ). HasVotesTo lease quorums o.kept r time) (only_one (handed o.calls (Inside under) counts) under request (handed_has o.calls under counts e) has) (is e))
      | false ↦ λ e. holds.told request (not_handed_had o.calls (Inside under) counts request e has)
    ] refl
comes_told tell lease quorums o session (Unlocks other) time meet is holds = λ request has. holds.told request (unlocks_had o.calls other request has)
comes_told tell lease quorums o session MayBeLost time meet is holds = λ request has. holds.told request (loses_had o.calls request has)
comes_told tell lease quorums o session Empties time meet is holds = λ request has. holds.told request has
comes_told tell lease quorums o session Closes time meet is holds = λ request has. holds.told request has

comes_on : (tell : ℕ → Incarnation → ℕ) (lease : ℕ) (quorums : List (List ℕ)) (o : Caller) (session : Session) (s : CallStep) (time : ℕ) (own : Bool) → DoMeet quorums
    → IfOwn own (IsHanded lease quorums o s time) → HoldsOf tell lease quorums o session
    → HoldsOf tell lease quorums (if own then record { kept = o.kept; calls = call_stepped o.calls s; until = until_then o.calls s time o.until } else o) session
comes_on tell lease quorums o session s time false meet is holds = holds
comes_on tell lease quorums o session s time true meet is holds = record { kept = holds.kept; told = comes_told tell lease quorums o session s time meet is holds }

-- the later one of two times is one of them
later_evidence : (lease : ℕ) (quorums : List (List ℕ)) (s : Session) (request before time : ℕ) → HasEvidence lease quorums s request before → HasEvidence lease quorums s request time
    → HasEvidence lease quorums s request (max before time)
later_evidence lease quorums s request before time one two =
    elim (one_of_max before time) [
      | inl e ↦ subst (λ (t : ℕ). HasEvidence lease quorums s request t) (sym e) one
      | inr e ↦ subst (λ (t : ℕ). HasEvidence lease quorums s request t) (sym e) two
    ]

tells_on : (tell : ℕ → Incarnation → ℕ) (lease : ℕ) (quorums : List (List ℕ)) (o : Caller) (session : Session) (time : ℕ) (own : Bool) → DoMeet quorums
    → IfOwn own ((request : ℕ) → HasLock o.calls request → HasVotesTo lease quorums o.kept request time) → HoldsOf tell lease quorums o session
    → HoldsOf tell lease quorums (if own then record { kept = o.kept; calls = o.calls; until = max o.until time } else o) session
tells_on tell lease quorums o session time false meet is holds = holds
tells_on tell lease quorums o session time true meet is holds = record {
  kept = holds.kept;
  told = λ request has.
      later_evidence lease quorums session request o.until time (holds.told request has)
      (votes_evidence tell lease request time quorums o.kept session meet holds.kept (is request has));
}

-- ---- all steps

steps_on : (lapses : ℕ → ℕ → Incarnation → ℕ) (ttl lease stop me : ℕ) (quorums : List (List ℕ)) (w : World) (o : Caller) (steps : List CallerStep) → DoMeet quorums
    → AreTold lapses ttl (lease + stop) w (steps_of steps) → AllAsTold ttl lease (lease + stop) me quorums w o steps → HoldsOf (lapses me) lease quorums o (w.sessions me)
    → HoldsOf (lapses me) lease quorums (caller_after ttl lease (lease + stop) me w o steps) ((after_all ttl (lease + stop) w (events_of (steps_of steps))).sessions me)
steps_on lapses ttl lease stop me quorums w o [] meet told are holds = holds
steps_on lapses ttl lease stop me quorums w o (InWorld (Happens e i) ∷ steps) meet told are holds =
    steps_on lapses ttl lease stop me quorums (after ttl (lease + stop) w e) (caller_then lease me w o (InWorld (Happens e i))) steps meet told.1 are.1
    (goes_on lapses ttl lease stop me quorums w o (Happens e i) told.0 are.0 holds)
steps_on lapses ttl lease stop me quorums w o (InWorld (Asks session request) ∷ steps) meet told are holds =
    steps_on lapses ttl lease stop me quorums w (caller_then lease me w o (InWorld (Asks session request))) steps meet told.1 are.1
    (goes_on lapses ttl lease stop me quorums w o (Asks session request) told.0 are.0 holds)
steps_on lapses ttl lease stop me quorums w o (InWorld (Learns session voter i) ∷ steps) meet told are holds =
    steps_on lapses ttl lease stop me quorums w (caller_then lease me w o (InWorld (Learns session voter i))) steps meet told.1 are.1
    (goes_on lapses ttl lease stop me quorums w o (Learns session voter i) told.0 are.0 holds)
steps_on lapses ttl lease stop me quorums w o (InWorld (Holds session voter) ∷ steps) meet told are holds =
    steps_on lapses ttl lease stop me quorums w (caller_then lease me w o (InWorld (Holds session voter))) steps meet told.1 are.1
    (goes_on lapses ttl lease stop me quorums w o (Holds session voter) told.0 are.0 holds)
steps_on lapses ttl lease stop me quorums w o (ToCalls session s time ∷ steps) meet told are holds =
    steps_on lapses ttl lease stop me quorums w (caller_then lease me w o (ToCalls session s time)) steps meet told are.1
    (comes_on (lapses me) lease quorums o (w.sessions me) s time (session == me) meet are.0 holds)
steps_on lapses ttl lease stop me quorums w o (TellsUntil session time ∷ steps) meet told are holds =
    steps_on lapses ttl lease stop me quorums w (caller_then lease me w o (TellsUntil session time)) steps meet told are.1
    (tells_on (lapses me) lease quorums o (w.sessions me) time (session == me) meet are.0 holds)

begin_holds : (tell : ℕ → Incarnation → ℕ) (lease : ℕ) (quorums : List (List ℕ)) (periods voters sessions : ℕ → ℕ) (used me : ℕ)
    → HoldsOf tell lease quorums (begun_caller used) ((begins periods voters sessions).sessions me)
begin_holds tell lease quorums periods voters sessions used me = record {
  kept = λ voter. begun_stands (tell voter) used;
  told = λ request has. absurd (none-some has.0 has.1);
}

-- ---- the laws

all_have : (lease stop request until : ℕ) (s : Session) (quorum : List ℕ) → s.time < until + stop → ((voter : ℕ) → IsOneOf voter quorum → Evidence lease s request until voter)
    → list_all (has_vote (lease + stop) s request) quorum ≡ true
all_have lease stop request until s [] before all = refl
all_have lease stop request until s (voter ∷ quorum) before all =
    let one = all voter (inl refl) in
    let least = one.2 in
    and_true (has_vote (lease + stop) s request voter) (list_all (has_vote (lease + stop) s request) quorum)
    (counted_votes (lease + stop) request voter one.0 s one.1 (omega arith))
    (all_have lease stop request until s quorum before (λ v among. all v (inr among)))

pub call_has_votes : (lapses : ℕ → ℕ → Incarnation → ℕ) (ttl lease stop : ℕ) (periods voters sessions : ℕ → ℕ) (used : ℕ) (steps : List CallerStep) (quorums : List (List ℕ)) (me request : ℕ)
    → DoMeet quorums → AreTold lapses ttl (lease + stop) (begins periods voters sessions) (steps_of steps)
    → AllAsTold ttl lease (lease + stop) me quorums (begins periods voters sessions) (begun_caller used) steps
    → CallWorks stop ((after_all ttl (lease + stop) (begins periods voters sessions) (events_of (steps_of steps))).sessions me).time
    (caller_after ttl lease (lease + stop) me (begins periods voters sessions) (begun_caller used) steps) request
    → Works lease stop quorums (after_all ttl (lease + stop) (begins periods voters sessions) (events_of (steps_of steps))) me request
call_has_votes lapses ttl lease stop periods voters sessions used steps quorums me request meet told are works =
    let w = after_all ttl (lease + stop) (begins periods voters sessions) (events_of (steps_of steps)) in
    let o = caller_after ttl lease (lease + stop) me (begins periods voters sessions) (begun_caller used) steps in
    let holds : HoldsOf (lapses me) lease quorums o (w.sessions me) =
    steps_on lapses ttl lease stop me quorums (begins periods voters sessions) (begun_caller used) steps meet told are (begin_holds (lapses me) lease quorums periods voters sessions used me) in
    let has = holds.told request works.0 in record {
      quorum = has.quorum;
      is_quorum = has.is_quorum;
      works = and_true (not (is_among request (w.sessions me).ended)) (list_all (has_vote (lease + stop) (w.sessions me) request) has.quorum)
          (ap not has.goes_on) (all_have lease stop request o.until (w.sessions me) has.quorum works.1 has.counted);
    }

pub one_call_works : (lapses : ℕ → ℕ → Incarnation → ℕ) (a b ttl lease stop : ℕ) (periods voters sessions used : ℕ → ℕ) (steps : List CallerStep) (quorums : List (List ℕ)) (me request other another : ℕ)
    → 1 ≤ b → AllByRecursion (IsRated a b) (events_of (steps_of steps)) → b * (lease + stop) ≤ a * ttl → DoMeet quorums
    → AreTold lapses ttl (lease + stop) (begins periods voters sessions) (steps_of steps)
    → AllAsTold ttl lease (lease + stop) me quorums (begins periods voters sessions) (begun_caller (used me)) steps
    → AllAsTold ttl lease (lease + stop) other quorums (begins periods voters sessions) (begun_caller (used other)) steps
    → CallWorks stop ((after_all ttl (lease + stop) (begins periods voters sessions) (events_of (steps_of steps))).sessions me).time
    (caller_after ttl lease (lease + stop) me (begins periods voters sessions) (begun_caller (used me)) steps) request
    → CallWorks stop ((after_all ttl (lease + stop) (begins periods voters sessions) (events_of (steps_of steps))).sessions other).time
    (caller_after ttl lease (lease + stop) other (begins periods voters sessions) (begun_caller (used other)) steps) another
    → (me ≡ other) × (request ≡ another)
one_call_works lapses a b ttl lease stop periods voters sessions used steps quorums me request other another some rated bound meet told mine others first second =
    one_works a b ttl lease stop periods voters sessions (events_of (steps_of steps)) quorums me request other another some rated bound meet
    (call_has_votes lapses ttl lease stop periods voters sessions (used me) steps quorums me request meet told mine first)
    (call_has_votes lapses ttl lease stop periods voters sessions (used other) steps quorums other another meet told others second)
