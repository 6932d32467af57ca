-- each event keeps what holds of all voters and sessions
use Rattle.std.proofs.Common.{◌≡◌, ℕ, ◌+◌, Bool, true, false, List, [], ◌∷◌, refl, sym, subst, ◌∙◌, Option, Some, None, inl, inr}
use Rattle.std.specs.Prelude.{◌==◌, ◌||◌, ◌&&◌, not, if◌then◌else◌}
use Rattle.std.specs.List.{AllByRecursion, slice_get}
use Rattle.std.proofs.lemmas.Bool.{false≢true, eqb-true}
use Rattle.lease_clock.specs.Clocks.{leaves, returned}
use Rattle.lease_clock.specs.Leases.{is_among}
use Rattle.working.specs.Events.{Beats, CountsNow, Ends, Event, GivesBack, GivesOn, Gives, Hears, IsRated, Keeps, LetsGo, LetsOtherGo, Loses, Marked, Marks, Passes, QuietCountsNow, Released, Relinquished, Renews, Restarts, Takes, Tells, Wakes, World, after, after_all, begins, serving, with_session, with_voter}
use Rattle.working.specs.Sessions.{Session, beaten, has_ended, has_returned, has_vote, renews, takes}
use Rattle.working.specs.Voters.{Acknowledgement, Grant, Locked, Quiet, Voter, awake, counts_now, ends, gives, gives_on, grant_of, heard_from, is_of_number, is_of_request, lets_go, lets_other_go, lost, quiet_counts_now, renewed, restarted, set, tells_again, unless_quiet, with_clock}
use Rattle.working.proofs.Lists.{both, of_place, set_by, still_among}
use Rattle.working.proofs.Seen.{Given, WasTold, told_at}
use Rattle.working.proofs.Counted.{is_current}
use Rattle.working.proofs.Holds.{AreKept, Holds, IsKept, IsOwn, IsTaken, Stands, StandsNext, keeps}
use Rattle.working.proofs.Grants.{ends_on, gives_to, renewed_on, tells_more, unless_on}
use Rattle.working.proofs.Steps.{awake_on, beats_on, counts_on, gives_on_on, hears_on, later_on, lets_go_on, lets_other_on, lost_on, marked_on, marks_on, quiet_counts_on, restarts_on}

-- ---- what a session does

-- more requests ended, more votes were given back
still_stands : (current : Option Grant) (ended more returned given : List ℕ) (grant : Grant) → (is_among grant.request ended ≡ true → is_among grant.request more ≡ true)
    → (is_among grant.number returned ≡ true → is_among grant.number given ≡ true) → Stands current ended returned grant → Stands current more given grant
still_stands current ended more returned given grant ended_too given_too stands = elim stands [
  | inl e ↦ inl e
  | inr free ↦ elim free [
    | inl e ↦ inr (inl (ended_too e))
    | inr e ↦ inr (inr (given_too e))
  ]
]

still_next : (lapses : ℕ) (quiet : Option Quiet) (ended more returned given : List ℕ) (k : Locked) → (is_among k.grant.request ended ≡ true → is_among k.grant.request more ≡ true)
    → (is_among k.grant.number returned ≡ true → is_among k.grant.number given ≡ true) → StandsNext lapses quiet ended returned k → StandsNext lapses quiet more given k
still_next lapses None ended more returned given k ended_too given_too next = tt
still_next lapses (Some q) ended more returned given k ended_too given_too next = λ same. still_stands q.kept ended more returned given k.grant ended_too given_too (next same)

still_own : (current : Option Grant) (ended more : List ℕ) (grant : Grant) → (is_among grant.request ended ≡ true → is_among grant.request more ≡ true) → IsOwn current ended grant → IsOwn current more grant
still_own current ended more grant ended_too own = elim own [
  | inl e ↦ inl (ended_too e)
  | inr is ↦ inr is
]

still_kept : (session lapses : ℕ) (current : Option Grant) (quiet : Option Quiet) (ended more returned given : List ℕ) (left taken : List Locked) → ((x : ℕ) → is_among x ended ≡ true → is_among x more ≡ true)
    → ((x : ℕ) → is_among x returned ≡ true → is_among x given ≡ true) → AreKept session lapses current quiet ended returned left taken → AreKept session lapses current quiet more given left taken
still_kept session lapses current quiet ended more returned given left taken ended_too given_too kept =
    keeps session lapses lapses current current quiet quiet ended more returned given left taken
    (λ k is. record {
      few = is.few;
      stands = λ own same. still_stands current ended more returned given k.grant (ended_too k.grant.request) (given_too k.grant.number) (is.stands own same);
      next = λ own. still_next lapses quiet ended more returned given k (ended_too k.grant.request) (given_too k.grant.number) (is.next own);
      renews = is.renews;
    })
    (λ k own is had less. still_own current ended more k.grant (ended_too k.grant.request) (had less)) kept

ended_on : (g : Given) (voter session request : ℕ) (v : Voter) (s : Session) → Holds g voter session v s → Holds g voter session v (has_ended s request)
ended_on g voter session request v s h = record {
  reached = h.reached;
  stopped = h.stopped;
  kept = still_kept session (v.lapses session) v.current v.quiet s.ended (request ∷ s.ended) (s.returned voter) (s.returned voter) v.told (s.votes voter)
      (λ x is. still_among x request s.ended is) (λ x is. is) h.kept;
  leases = h.leases;
}

still_returned : (returned : ℕ → List ℕ) (place number voter x : ℕ) → is_among x (returned voter) ≡ true → is_among x (set returned place (number ∷ returned place) voter) ≡ true
still_returned returned place number voter x =
    set_by (λ o xs. is_among x (returned o) ≡ true → is_among x xs ≡ true) returned place (number ∷ returned place) voter
    (λ is. still_among x number (returned place) is) (λ apart is. is)

returned_on : (g : Given) (voter session place number : ℕ) (v : Voter) (s : Session) → Holds g voter session v s → Holds g voter session v (has_returned s place number)
returned_on g voter session place number v s h = record {
  reached = h.reached;
  stopped = h.stopped;
  kept = still_kept session (v.lapses session) v.current v.quiet s.ended s.ended (s.returned voter) (set s.returned place (number ∷ s.returned place) voter) v.told (s.votes voter)
      (λ x is. is) (still_returned s.returned place number voter) h.kept;
  leases = h.leases;
}

-- ---- what reaches a session

abbrev HoldsAll : Given → (ℕ → Voter) → ℕ → Session → Type 0
HoldsAll g voters session s = (voter : ℕ) → Holds g voter session (voters voter) s

vote_on : (g : Given) (voters : ℕ → Voter) (session place : ℕ) (s : Session) (locked : Locked)
    → IsTaken session ((voters place).lapses session) (voters place).current (voters place).quiet s.ended (s.returned place) locked
    → HoldsAll g voters session s → HoldsAll g voters session (record s { votes = set s.votes place (locked ∷ s.votes place) })
vote_on g voters session place s locked one hs voter =
    let h = hs voter in
    record {
      reached = h.reached;
      stopped = h.stopped;
      kept = record {
        told = h.kept.told;
        votes = set_by (λ o xs. AllByRecursion (IsTaken session ((voters o).lapses session) (voters o).current (voters o).quiet s.ended (s.returned o)) xs) s.votes place (locked ∷ s.votes place) voter
            (one, (hs place).kept.votes) (λ apart. h.kept.votes);
      };
      leases = h.leases;
    }

-- whoever renews a vote had it, or its request ended
had_vote : (g : Given) (voter session : ℕ) (v : Voter) (s : Session) (locked : Locked) → locked.grant.session ≡ session → Holds g voter session v s
    → has_vote (g.lease + g.stop) s locked.grant.request voter ≡ true → IsOwn v.current s.ended locked.grant
had_vote g voter session v s locked own h has =
    elim (is_among locked.grant.request s.ended) as (λ b. is_among locked.grant.request s.ended ≡ b → IsOwn v.current s.ended locked.grant) [
      | true ↦ λ ended. inl ended
      | false ↦ λ going. inr (subst (λ (o : ℕ). (number : ℕ) × (v.current ≡ Some (grant_of o locked.grant.request number))) (sym own)
          (is_current g voter session locked.grant.request v s h going has))
    ] refl

renewing : (renews has : Bool) → renews ≡ true → (not renews || has) ≡ true → has ≡ true
renewing true has is may = may
renewing false has is may = absurd (false≢true is)

takes_on : (g : Given) (voters : ℕ → Voter) (session place i : ℕ) (s : Session) (o : Option Locked) → slice_get (voters place).told i ≡ o
    → HoldsAll g voters session s → HoldsAll g voters session (takes (g.lease + g.stop) session s place o)
takes_on g voters session place i s None is hs = hs
takes_on g voters session place i s (Some locked) is hs =
    let v = voters place in
    let has = has_vote (g.lease + g.stop) s locked.grant.request place in
    elim ((locked.grant.session == session) && (not locked.renews || has)) as (λ b. ((locked.grant.session == session) && (not locked.renews || has)) ≡ b
    → HoldsAll g voters session (if b then record s { votes = set s.votes place (locked ∷ s.votes place) } else s)) [
      | true ↦ λ may.
          let parts = both (locked.grant.session == session) (not locked.renews || has) may in
          let own = eqb-true locked.grant.session session parts.0 in
          let kept = of_place (IsKept session (v.lapses session) v.current v.quiet s.ended (s.returned place)) v.told i locked is (hs place).kept.told in
          vote_on g voters session place s locked
          (record { own = own; kept = kept; had = λ less. had_vote g place session v s locked own (hs place) (renewing locked.renews has (kept.renews own less) parts.1) }) hs
      | false ↦ λ may. hs
    ] refl

lease_on : (g : Given) (voters : ℕ → Voter) (session place : ℕ) (s : Session) (a : Acknowledgement) → WasTold session (voters place).acknowledged a
    → HoldsAll g voters session s → HoldsAll g voters session (record s { leases = set s.leases place (a ∷ s.leases place) })
lease_on g voters session place s a one hs voter =
    let h = hs voter in
    record {
      reached = h.reached;
      stopped = h.stopped;
      kept = h.kept;
      leases = set_by (λ o xs. AllByRecursion (WasTold session (voters o).acknowledged) xs) s.leases place (a ∷ s.leases place) voter
          (one, (hs place).leases) (λ apart. h.leases);
    }

renews_on : (g : Given) (voters : ℕ → Voter) (session place i : ℕ) (s : Session) (o : Option Acknowledgement) → slice_get (voters place).acknowledged i ≡ o
    → HoldsAll g voters session s → HoldsAll g voters session (renews session s place o)
renews_on g voters session place i s None is hs = hs
renews_on g voters session place i s (Some a) is hs =
    elim (a.session == session) as (λ b. (a.session == session) ≡ b → HoldsAll g voters session (if b then record s { leases = set s.leases place (a ∷ s.leases place) } else s)) [
      | true ↦ λ own. lease_on g voters session place s a (told_at session (voters place).acknowledged i a is own) hs
      | false ↦ λ own. hs
    ] refl

-- ---- all voters and sessions

abbrev pub IsGood : Given → World → Type 0
IsGood g w = (voter session : ℕ) → Holds g voter session (w.voters voter) (w.sessions session)

voter_on : (g : Given) (w : World) (voter : ℕ) (v : Voter) → ((session : ℕ) → Holds g voter session v (w.sessions session)) → IsGood g w → IsGood g (with_voter w voter v)
voter_on g w voter v here good o session =
    set_by (λ x y. Holds g x session y (w.sessions session)) w.voters voter v o (here session) (λ apart. good o session)

session_on : (g : Given) (w : World) (session : ℕ) (s : Session) → ((voter : ℕ) → Holds g voter session (w.voters voter) s) → IsGood g w → IsGood g (with_session w session s)
session_on g w session s here good voter o =
    set_by (λ x y. Holds g voter x (w.voters voter) y) w.sessions session s o (here voter) (λ apart. good voter o)

serving_on : (g : Given) (w : World) (voter : ℕ) (v : Voter) → ((session : ℕ) → (w.voters voter).quiet ≡ None → Holds g voter session v (w.sessions session)) → IsGood g w → IsGood g (serving w voter v)
serving_on g w voter v here good =
    voter_on g w voter (unless_quiet (w.voters voter) (w.voters voter).quiet v)
    (λ session. unless_on g voter session (w.voters voter) v (w.sessions session) (w.voters voter).quiet refl (here session) (good voter session)) good

-- a RELEASE ends grants of requests that ended
released_on : (g : Given) (w : World) (session voter request : ℕ) → is_among request (w.sessions session).ended ≡ true → IsGood g w
    → IsGood g (with_voter w voter (ends (w.voters voter) (w.voters voter).quiet (is_of_request session request)))
released_on g w session voter request ended good =
    voter_on g w voter (ends (w.voters voter) (w.voters voter).quiet (is_of_request session request))
    (λ other. ends_on g voter other (w.voters voter) (w.sessions other) (is_of_request session request) (w.voters voter).quiet refl
    (λ grant such own. let such = both (grant.session == session) (grant.request == request) such in
    inl (subst (λ (o : ℕ). is_among grant.request (w.sessions o).ended ≡ true) (sym (eqb-true grant.session session such.0) ∙ own)
    (subst (λ (r : ℕ). is_among r (w.sessions session).ended ≡ true) (sym (eqb-true grant.request request such.1)) ended))) (good voter other)) good

-- a RELINQUISH ends grants that were given back
relinquished_on : (g : Given) (w : World) (session voter number : ℕ) → is_among number ((w.sessions session).returned voter) ≡ true → IsGood g w
    → IsGood g (with_voter w voter (ends (w.voters voter) (w.voters voter).quiet (is_of_number session number)))
relinquished_on g w session voter number given good =
    voter_on g w voter (ends (w.voters voter) (w.voters voter).quiet (is_of_number session number))
    (λ other. ends_on g voter other (w.voters voter) (w.sessions other) (is_of_number session number) (w.voters voter).quiet refl
    (λ grant such own. let such = both (grant.session == session) (grant.number == number) such in
    inr (subst (λ (o : ℕ). is_among grant.number ((w.sessions o).returned voter) ≡ true) (sym (eqb-true grant.session session such.0) ∙ own)
    (subst (λ (n : ℕ). is_among n ((w.sessions session).returned voter) ≡ true) (sym (eqb-true grant.number number such.1)) given))) (good voter other)) good

if_so : (g : Given) (w x : World) (b : Bool) → (b ≡ true → IsGood g x) → IsGood g w → IsGood g (if b then x else w)
if_so g w x true one good = one refl
if_so g w x false one good = good

event_on : (g : Given) (w : World) (e : Event) → IsRated g.a g.b e → IsGood g w → IsGood g (after g.ttl (g.lease + g.stop) w e)
event_on g w (Passes voters sessions) rated good = λ voter session.
    later_on g voter session (voters voter) (sessions session) (w.voters voter) (w.sessions session) (rated voter session) (good voter session)
event_on g w (Beats session) rated good =
    session_on g w session (beaten (w.sessions session)) (λ voter. beats_on g voter session (w.voters voter) (w.sessions session) (good voter session)) good
event_on g w (Hears session voter time) rated good =
    if_so g w (with_voter w voter (heard_from (w.voters voter) session time)) (is_among time (w.sessions session).beats)
    (λ among. voter_on g w voter (heard_from (w.voters voter) session time) (λ other. hears_on g voter session time other (w.voters voter) w.sessions among (good voter)) good) good
event_on g w (Renews session voter place) rated good =
    let o = slice_get (w.voters voter).acknowledged place in
    session_on g w session (renews session (w.sessions session) voter o) (renews_on g w.voters session voter place (w.sessions session) o refl (λ x. good x session)) good
event_on g w (Marks voter) rated good =
    voter_on g w voter (with_clock (w.voters voter) (leaves (w.voters voter).clock (w.voters voter).time)) (λ session. marks_on g voter session (w.voters voter) (w.sessions session) (good voter session)) good
event_on g w (Marked voter number) rated good =
    voter_on g w voter (with_clock (w.voters voter) (returned (w.voters voter).clock number)) (λ session. marked_on g voter session number (w.voters voter) (w.sessions session) (good voter session)) good
event_on g w (CountsNow session voter) rated good =
    voter_on g w voter (counts_now (w.voters voter) session) (λ other. counts_on g voter session other (w.voters voter) w.sessions (good voter)) good
event_on g w (QuietCountsNow voter) rated good =
    voter_on g w voter (quiet_counts_now (w.voters voter)) (λ session. quiet_counts_on g voter session (w.voters voter) (w.sessions session) (good voter session)) good
event_on g w (Gives session voter request number) rated good =
    serving_on g w voter (gives (w.voters voter) (w.voters voter).current (grant_of session request number))
    (λ other awake. gives_to g voter other (w.voters voter) (w.sessions other) (grant_of session request number) (w.voters voter).current refl awake (good voter other)) good
event_on g w (Tells voter) rated good =
    serving_on g w voter (tells_again (w.voters voter) (w.voters voter).current)
    (λ other awake. tells_more g voter other (w.voters voter) (w.sessions other) (w.voters voter).current refl awake (good voter other)) good
event_on g w (Takes session voter place) rated good =
    let o = slice_get (w.voters voter).told place in
    session_on g w session (takes (g.lease + g.stop) session (w.sessions session) voter o) (takes_on g w.voters session voter place (w.sessions session) o refl (λ x. good x session)) good
event_on g w (Ends session request) rated good =
    session_on g w session (has_ended (w.sessions session) request) (λ voter. ended_on g voter session request (w.voters voter) (w.sessions session) (good voter session)) good
event_on g w (Released session voter request) rated good =
    if_so g w (with_voter w voter (ends (w.voters voter) (w.voters voter).quiet (is_of_request session request))) (is_among request (w.sessions session).ended)
    (λ among. released_on g w session voter request among good) good
event_on g w (GivesBack session voter number) rated good =
    session_on g w session (has_returned (w.sessions session) voter number) (λ other. returned_on g other session voter number (w.voters other) (w.sessions session) (good other session)) good
event_on g w (Relinquished session voter number) rated good =
    if_so g w (with_voter w voter (ends (w.voters voter) (w.voters voter).quiet (is_of_number session number))) (is_among number ((w.sessions session).returned voter))
    (λ among. relinquished_on g w session voter number among good) good
event_on g w (LetsGo voter) rated good =
    serving_on g w voter (lets_go g.ttl (w.voters voter) (w.voters voter).current)
    (λ other awake. lets_go_on g voter other (w.voters voter) (w.sessions other) (w.voters voter).current refl awake (good voter other)) good
event_on g w (LetsOtherGo session voter) rated good =
    serving_on g w voter (lets_other_go g.ttl (w.voters voter) session) (λ other awake. lets_other_on g voter session other (w.voters voter) (w.sessions other) awake (good voter other)) good
event_on g w (GivesOn session voter) rated good =
    serving_on g w voter (gives_on g.ttl (w.voters voter) session) (λ other awake. gives_on_on g voter session other (w.voters voter) (w.sessions other) awake (good voter other)) good
event_on g w (Restarts voter) rated good =
    voter_on g w voter (restarted (w.voters voter)) (λ session. restarts_on g voter session (w.voters voter) (w.sessions session) (good voter session)) good
event_on g w (Loses voter) rated good =
    voter_on g w voter (lost (w.voters voter)) (λ session. lost_on g voter session (w.voters voter) (w.sessions session) (good voter session)) good
event_on g w (Keeps session voter request number) rated good =
    voter_on g w voter (renewed (w.voters voter) (w.voters voter).quiet (grant_of session request number))
    (λ other. renewed_on g voter other (w.voters voter) (w.sessions other) (grant_of session request number) (w.voters voter).quiet refl (good voter other)) good
event_on g w (Wakes voter) rated good =
    voter_on g w voter (awake g.ttl (w.voters voter) (w.voters voter).quiet)
    (λ session. awake_on g voter session (w.voters voter) (w.sessions session) (w.voters voter).quiet refl (good voter session)) good

pub events_on : (g : Given) (w : World) (es : List Event) → AllByRecursion (IsRated g.a g.b) es → IsGood g w → IsGood g (after_all g.ttl (g.lease + g.stop) w es)
events_on g w [] rated good = good
events_on g w (e ∷ es) rated good = events_on g (after g.ttl (g.lease + g.stop) w e) es rated.1 (event_on g w e rated.0 good)

pub begin_good : (g : Given) (periods voters sessions : ℕ → ℕ) → IsGood g (begins periods voters sessions)
begin_good g periods voters sessions voter session = record {
  reached = λ l most. record {
    period = periods voter;
    voter = voters voter;
    client = sessions session;
    events = [];
    rated = tt;
    is = refl;
  };
  stopped = tt;
  kept = record { told = tt; votes = tt };
  leases = tt;
}
