-- each step keeps what holds of a session
use Rattle.std.proofs.Common.{◌≡◌, ℕ, ◌+◌, Bool, true, false, ◌∷◌, refl, sym, subst, ◌∙◌, Option, Some, None}
use Rattle.std.specs.Prelude.{◌==◌, ◌&&◌, ◌||◌, not, if◌then◌else◌}
use Rattle.std.specs.List.{slice_get}
use Rattle.std.proofs.lemmas.Bool.{eqb-true, false≢true}
use Rattle.lease_clock.specs.Leases.{is_among}
use Rattle.working.specs.Events.{Beats, CountsNow, Ends, Event, GivesBack, GivesOn, Gives, Hears, Keeps, LetsGo, LetsOtherGo, Loses, Marked, Marks, Passes, QuietCountsNow, Released, Relinquished, Renews, Restarts, Takes, Tells, Wakes, World, after, with_voter}
use Rattle.working.specs.Sessions.{Session, beaten, has_ended, has_returned, has_vote, renews, takes}
use Rattle.working.specs.Voters.{Acknowledgement, Locked as Message, ends, heard_from, is_of_number, is_of_request, set}
use Rattle.working.proofs.Lists.{both, set_by}
use Rattle.vote_leases.specs.Leases.{asked, beat_of, counts, ended, given_back, heard, is_taken, kept, renewed, taken}
use Rattle.vote_leases.specs.Sessions.{IsTold, IsToldAt, Kept, Step, Asks, Happens, Holds, Learns, acknowledged_to, kept_after, locked_of, locked_to, stepped, with_lease, with_vote, world_after}
use Rattle.vote_leases.specs.declared.incarnation.Incarnation.{Incarnation}
use Rattle.vote_leases.specs.declared.lease.VoterLease.{VoterLease}
use Rattle.vote_leases.specs.declared.vote.Vote.{Vote}
use Rattle.vote_leases.proofs.Evidence.{Stands, counts_has}
use Rattle.vote_leases.proofs.Stands.{asked_stands, ended_stands, given_back_stands, heard_stands, kept_stands, renewed_stands, taken_stands}

-- what is kept of each voter stands for messages that the session took
abbrev pub IsKept : (ℕ → Incarnation → ℕ) → Kept → Session → Type 0
IsKept tell k s = (voter : ℕ) → Stands (tell voter) (k.leases voter) (k.votes voter) (s.votes voter) (s.leases voter) s.ended (s.returned voter)

-- ---- one place

-- two functions with other values at one place
at_place : {X Y : Type 0} (P : ℕ → X → Y → Type 0) (f : ℕ → X) (h : ℕ → Y) (place : ℕ) (x : X) (y : Y) (other : ℕ) → P place x y → P other (f other) (h other)
    → P other (set f place x other) (set h place y other)
at_place P f h place x y other here there =
    elim (place == other) as (λ b. (place == other) ≡ b → P other (if b then x else f other) (if b then y else h other)) [
      | true ↦ λ e. subst (λ (o : ℕ). P o x y) (eqb-true place other e) here
      | false ↦ λ e. there
    ] refl

-- ---- messages of voters

acknowledged_on : (tell : ℕ → Incarnation → ℕ) (me voter : ℕ) (i : Incarnation) (k : Kept) (s : Session) (o : Option Acknowledgement)
    → ((a : Acknowledgement) → o ≡ Some a → a.session ≡ me → tell voter i ≡ a.lapses) → IsKept tell k s → IsKept tell (acknowledged_to me k voter i o) (renews me s voter o)
acknowledged_on tell me place i k s None tells is = is
acknowledged_on tell me place i k s (Some a) tells is =
    elim (a.session == me) as (λ b. (a.session == me) ≡ b
    → IsKept tell (if b then with_lease k place (renewed (k.leases place) i a.beat) else k) (if b then record s { leases = set s.leases place (a ∷ s.leases place) } else s)) [
      | false ↦ λ e. is
      | true ↦ λ e. λ voter.
          at_place (λ o l leases. Stands (tell o) l (k.votes o) (s.votes o) leases s.ended (s.returned o)) k.leases s.leases place (renewed (k.leases place) i a.beat) (a ∷ s.leases place) voter
          (renewed_stands (tell place) i a (k.leases place) (k.votes place) (s.votes place) (s.leases place) s.ended (s.returned place) (tells a refl (eqb-true a.session me e)) (is place))
          (is voter)
    ] refl

renewing : (renews counts has : Bool) → (not renews || counts) ≡ true → (counts ≡ true → has ≡ true) → (not renews || has) ≡ true
renewing false counts has may so = refl
renewing true counts has may so = so may

-- a LOCKED that the kept vote takes, the session takes
taken_too : (tell : Incarnation → ℕ) (i : Incarnation) (m : Message) (lease stop voter : ℕ) (l : VoterLease) (v : Vote) (s : Session)
    → Stands tell l v (s.votes voter) (s.leases voter) s.ended (s.returned voter) → is_taken v l (locked_of i m) lease s.time ≡ true
    → (not m.renews || has_vote (lease + stop) s m.grant.request voter) ≡ true
taken_too tell i m lease stop voter l v s stands is =
    let after = (both v.is_open _ is).1 in
    let parts = both (v.request == m.grant.request) _ after in
    let last = (both _ (not m.renews || counts v l lease s.time) parts.1).1 in
    renewing m.renews (counts v l lease s.time) (has_vote (lease + stop) s m.grant.request voter) last
    (λ has. subst (λ (r : ℕ). has_vote (lease + stop) s r voter ≡ true) (eqb-true v.request m.grant.request parts.0) (counts_has tell l v s voter lease stop stands has))

not_taken : (tell : ℕ → Incarnation → ℕ) (place lease stop : ℕ) (i : Incarnation) (k : Kept) (s : Session) (m : Message) → (not m.renews || has_vote (lease + stop) s m.grant.request place) ≡ false
    → Stands (tell place) (k.leases place) (k.votes place) (s.votes place) (s.leases place) s.ended (s.returned place)
    → Stands (tell place) (k.leases place) (taken (k.votes place) (k.leases place) (locked_of i m) lease s.time) (s.votes place) (s.leases place) s.ended (s.returned place)
not_taken tell place lease stop i k s m refuses stands =
    let v = k.votes place in
    let l = k.leases place in
    elim (is_taken v l (locked_of i m) lease s.time) as (λ b. is_taken v l (locked_of i m) lease s.time ≡ b
    → Stands (tell place) l (if b then record { request = v.request; is_open = v.is_open; returned = v.returned; taken = Some (record { incarnation = i; beat = beat_of v.taken l }) } else v) (s.votes place) (s.leases place) s.ended (s.returned place)) [
      | false ↦ λ e. stands
      | true ↦ λ e. absurd (false≢true (sym refuses ∙ taken_too (tell place) i m lease stop place l v s stands e))
    ] refl

own_locked_on : (tell : ℕ → Incarnation → ℕ) (place lease stop : ℕ) (i : Incarnation) (k : Kept) (s : Session) (m : Message) → tell place i ≡ m.lapses → IsKept tell k s
    → IsKept tell (with_vote k place (taken (k.votes place) (k.leases place) (locked_of i m) lease s.time))
    (if not m.renews || has_vote (lease + stop) s m.grant.request place then record s { votes = set s.votes place (m ∷ s.votes place) } else s)
own_locked_on tell place lease stop i k s m tells is =
    elim (not m.renews || has_vote (lease + stop) s m.grant.request place) as (λ b. (not m.renews || has_vote (lease + stop) s m.grant.request place) ≡ b
    → IsKept tell (with_vote k place (taken (k.votes place) (k.leases place) (locked_of i m) lease s.time))
    (if b then record s { votes = set s.votes place (m ∷ s.votes place) } else s)) [
      | true ↦ λ e. λ voter.
          at_place (λ o v votes. Stands (tell o) (k.leases o) v votes (s.leases o) s.ended (s.returned o)) k.votes s.votes place (taken (k.votes place) (k.leases place) (locked_of i m) lease s.time) (m ∷ s.votes place) voter
          (taken_stands (tell place) i m lease s.time (k.leases place) (k.votes place) (s.votes place) (s.leases place) s.ended (s.returned place) tells (is place))
          (is voter)
      | false ↦ λ e. λ voter.
          set_by (λ o v. Stands (tell o) (k.leases o) v (s.votes o) (s.leases o) s.ended (s.returned o)) k.votes place (taken (k.votes place) (k.leases place) (locked_of i m) lease s.time) voter
          (not_taken tell place lease stop i k s m e (is place))
          (λ apart. is voter)
    ] refl

locked_on : (tell : ℕ → Incarnation → ℕ) (me voter lease stop : ℕ) (i : Incarnation) (k : Kept) (s : Session) (o : Option Message)
    → ((m : Message) → o ≡ Some m → m.grant.session ≡ me → tell voter i ≡ m.lapses) → IsKept tell k s
    → IsKept tell (locked_to lease s.time me k voter i o) (takes (lease + stop) me s voter o)
locked_on tell me place lease stop i k s None tells is = is
locked_on tell me place lease stop i k s (Some m) tells is =
    elim (m.grant.session == me) as (λ b. (m.grant.session == me) ≡ b
    → IsKept tell (if b then with_vote k place (taken (k.votes place) (k.leases place) (locked_of i m) lease s.time) else k)
    (if b && (not m.renews || has_vote (lease + stop) s m.grant.request place) then record s { votes = set s.votes place (m ∷ s.votes place) } else s)) [
      | false ↦ λ e. is
      | true ↦ λ e. own_locked_on tell place lease stop i k s m (tells m refl (eqb-true m.grant.session me e)) is
    ] refl

-- ---- what a session does

ended_on : (tell : ℕ → Incarnation → ℕ) (request : ℕ) (k : Kept) (s : Session) → IsKept tell k s
    → IsKept tell (record { leases = k.leases; votes = λ voter. ended (k.votes voter) request }) (has_ended s request)
ended_on tell request k s is = λ voter.
    ended_stands (tell voter) request (k.leases voter) (k.votes voter) (s.votes voter) (s.leases voter) s.ended (s.returned voter) (is voter)

given_back_on : (tell : ℕ → Incarnation → ℕ) (place number : ℕ) (k : Kept) (s : Session) → IsKept tell k s
    → IsKept tell (with_vote k place (given_back (k.votes place) number)) (has_returned s place number)
given_back_on tell place number k s is = λ voter.
    at_place (λ o v returned. Stands (tell o) (k.leases o) v (s.votes o) (s.leases o) s.ended returned) k.votes s.returned place (given_back (k.votes place) number) (number ∷ s.returned place) voter
    (given_back_stands (tell place) number (k.leases place) (k.votes place) (s.votes place) (s.leases place) s.ended (s.returned place) (is place))
    (is voter)

asked_on : (tell : ℕ → Incarnation → ℕ) (request : ℕ) (k : Kept) (s : Session) → IsKept tell k s
    → IsKept tell (record { leases = k.leases; votes = λ voter. asked (k.votes voter) request }) s
asked_on tell request k s is = λ voter.
    asked_stands (tell voter) request (k.leases voter) (k.votes voter) (s.votes voter) (s.leases voter) s.ended (s.returned voter) (is voter)

heard_on : (tell : ℕ → Incarnation → ℕ) (place : ℕ) (i : Incarnation) (k : Kept) (s : Session) → IsKept tell k s → IsKept tell (with_lease k place (heard (k.leases place) i)) s
heard_on tell place i k s is = λ voter.
    set_by (λ o l. Stands (tell o) l (k.votes o) (s.votes o) (s.leases o) s.ended (s.returned o)) k.leases place (heard (k.leases place) i) voter
    (heard_stands (tell place) i (k.leases place) (k.votes place) (s.votes place) (s.leases place) s.ended (s.returned place) (is place))
    (λ apart. is voter)

held_on : (tell : ℕ → Incarnation → ℕ) (place : ℕ) (k : Kept) (s : Session) → IsKept tell k s → IsKept tell (with_vote k place (kept (k.votes place) (k.leases place))) s
held_on tell place k s is = λ voter.
    set_by (λ o v. Stands (tell o) (k.leases o) v (s.votes o) (s.leases o) s.ended (s.returned o)) k.votes place (kept (k.votes place) (k.leases place)) voter
    (kept_stands (tell place) (k.leases place) (k.votes place) (s.votes place) (s.leases place) s.ended (s.returned place) (is place))
    (λ apart. is voter)

-- ---- each event

-- a step of a session, of this one or of another one
own_step : (tell : ℕ → Incarnation → ℕ) (session me : ℕ) (sessions : ℕ → Session) (k after : Kept) (next : ℕ → Session)
    → (session ≡ me → IsKept tell k (sessions me) → IsKept tell after (next me)) → IsKept tell k (sessions me)
    → IsKept tell (if session == me then after else k) (set sessions session (next session) me)
own_step tell session me sessions k after next steps is =
    elim (session == me) as (λ b. (session == me) ≡ b → IsKept tell (if b then after else k) (if b then next session else sessions me)) [
      | false ↦ λ e. is
      | true ↦ λ e. subst (λ (x : ℕ). IsKept tell after (next x)) (sym (eqb-true session me e)) (steps (eqb-true session me e) is)
    ] refl

-- only a session's clock, or its heartbeats
beats_on : (tell : ℕ → Incarnation → ℕ) (session me : ℕ) (sessions : ℕ → Session) (k : Kept) → IsKept tell k (sessions me) → IsKept tell k (set sessions session (beaten (sessions session)) me)
beats_on tell session me sessions k is =
    elim (session == me) as (λ b. (session == me) ≡ b → IsKept tell k (if b then beaten (sessions session) else sessions me)) [
      | false ↦ λ e. is
      | true ↦ λ e. subst (λ (x : ℕ). IsKept tell k (beaten (sessions x))) (sym (eqb-true session me e)) is
    ] refl

-- a step of a voter alone, if it is taken
voters_alone : (tell : ℕ → Incarnation → ℕ) (me : ℕ) (b : Bool) (k : Kept) (next w : World) → next.sessions ≡ w.sessions → IsKept tell k (w.sessions me)
    → IsKept tell k ((if b then next else w).sessions me)
voters_alone tell me false k next w same is = is
voters_alone tell me true k next w same is = subst (λ (ss : ℕ → Session). IsKept tell k (ss me)) (sym same) is

event_on : (lapses : ℕ → ℕ → Incarnation → ℕ) (ttl lease stop me : ℕ) (w : World) (k : Kept) (e : Event) (i : Incarnation) → IsTold lapses w e i → IsKept (lapses me) k (w.sessions me)
    → IsKept (lapses me) (kept_after lease me w k e i) ((after ttl (lease + stop) w e).sessions me)
event_on lapses ttl lease stop me w k (Passes voters sessions) i told is = is
event_on lapses ttl lease stop me w k (Beats session) i told is = beats_on (lapses me) session me w.sessions k is
event_on lapses ttl lease stop me w k (Hears session voter time) i told is =
    voters_alone (lapses me) me (is_among time (w.sessions session).beats) k (with_voter w voter (heard_from (w.voters voter) session time)) w refl is
event_on lapses ttl lease stop me w k (Renews session voter place) i told is =
    let o = slice_get (w.voters voter).acknowledged place in
    own_step (lapses me) session me w.sessions k (acknowledged_to me k voter i o) (λ x. renews x (w.sessions x) voter o)
    (λ same. acknowledged_on (lapses me) me voter i k (w.sessions me) o
    (λ a has own. subst (λ (x : ℕ). lapses x voter i ≡ a.lapses) same (told a has (own ∙ sym same)))) is
event_on lapses ttl lease stop me w k (Marks voter) i told is = is
event_on lapses ttl lease stop me w k (Marked voter number) i told is = is
event_on lapses ttl lease stop me w k (Gives session voter request number) i told is = is
event_on lapses ttl lease stop me w k (Tells voter) i told is = is
event_on lapses ttl lease stop me w k (Takes session voter place) i told is =
    let o = slice_get (w.voters voter).told place in
    own_step (lapses me) session me w.sessions k (locked_to lease (w.sessions me).time me k voter i o) (λ x. takes (lease + stop) x (w.sessions x) voter o)
    (λ same. locked_on (lapses me) me voter lease stop i k (w.sessions me) o
    (λ m has own. subst (λ (x : ℕ). lapses x voter i ≡ m.lapses) same (told m has (own ∙ sym same)))) is
event_on lapses ttl lease stop me w k (Ends session request) i told is =
    own_step (lapses me) session me w.sessions k (record { leases = k.leases; votes = λ voter. ended (k.votes voter) request }) (λ x. has_ended (w.sessions x) request)
    (λ same. ended_on (lapses me) request k (w.sessions me)) is
event_on lapses ttl lease stop me w k (Released session voter request) i told is =
    voters_alone (lapses me) me (is_among request (w.sessions session).ended) k (with_voter w voter (ends (w.voters voter) (w.voters voter).quiet (is_of_request session request))) w refl is
event_on lapses ttl lease stop me w k (GivesBack session voter number) i told is =
    own_step (lapses me) session me w.sessions k (with_vote k voter (given_back (k.votes voter) number)) (λ x. has_returned (w.sessions x) voter number)
    (λ same. given_back_on (lapses me) voter number k (w.sessions me)) is
event_on lapses ttl lease stop me w k (Relinquished session voter number) i told is =
    voters_alone (lapses me) me (is_among number ((w.sessions session).returned voter)) k (with_voter w voter (ends (w.voters voter) (w.voters voter).quiet (is_of_number session number))) w refl is
event_on lapses ttl lease stop me w k (LetsGo voter) i told is = is
event_on lapses ttl lease stop me w k (CountsNow session voter) i told is = is
event_on lapses ttl lease stop me w k (QuietCountsNow voter) i told is = is
event_on lapses ttl lease stop me w k (LetsOtherGo session voter) i told is = is
event_on lapses ttl lease stop me w k (GivesOn session voter) i told is = is
event_on lapses ttl lease stop me w k (Restarts voter) i told is = is
event_on lapses ttl lease stop me w k (Loses voter) i told is = is
event_on lapses ttl lease stop me w k (Keeps session voter request number) i told is = is
event_on lapses ttl lease stop me w k (Wakes voter) i told is = is

if_own : (tell : ℕ → Incarnation → ℕ) (b : Bool) (k after : Kept) (s : Session) → (IsKept tell k s → IsKept tell after s) → IsKept tell k s → IsKept tell (if b then after else k) s
if_own tell false k after s steps is = is
if_own tell true k after s steps is = steps is

pub step_on : (lapses : ℕ → ℕ → Incarnation → ℕ) (ttl lease stop me : ℕ) (w : World) (k : Kept) (s : Step) → IsToldAt lapses w s → IsKept (lapses me) k (w.sessions me)
    → IsKept (lapses me) (stepped lease me w k s) ((world_after ttl (lease + stop) w s).sessions me)
step_on lapses ttl lease stop me w k (Happens e i) told is = event_on lapses ttl lease stop me w k e i told is
step_on lapses ttl lease stop me w k (Asks session request) told is =
    if_own (lapses me) (session == me) k (record { leases = k.leases; votes = λ voter. asked (k.votes voter) request }) (w.sessions me) (asked_on (lapses me) request k (w.sessions me)) is
step_on lapses ttl lease stop me w k (Learns session voter i) told is =
    if_own (lapses me) (session == me) k (with_lease k voter (heard (k.leases voter) i)) (w.sessions me) (heard_on (lapses me) voter i k (w.sessions me)) is
step_on lapses ttl lease stop me w k (Holds session voter) told is =
    if_own (lapses me) (session == me) k (with_vote k voter (kept (k.votes voter) (k.leases voter))) (w.sessions me) (held_on (lapses me) voter k (w.sessions me)) is
