-- what a lock does is what its calls and its votes say
use Rattle.std.proofs.Common.{◌≡◌, ℕ, ◌≤◌, Bool, true, false, List, [], ◌∷◌, ◌++◌, length, refl, sym, ap, subst, ◌∙◌, ◌⊎◌, inl, inr, Option, Some, None, arith}
use Rattle.std.specs.Prelude.{◌==◌, ◌&&◌, ◌||◌, is_some, max, nat_lt, not, slice_set, if◌then◌else◌, Result, Ok, Err}
use Rattle.std.specs.List.{AllByRecursion, slice_get}
use Rattle.std.proofs.lemmas.Bool.{eqb-true, eq-eqb, false≢true}
use Rattle.std.proofs.lemmas.Option.{none-some}
use Rattle.numbers.specs.Sets.{IsSet}
use Rattle.message.specs.declared.message.ClientBody.{ClientBody}
use Rattle.message.specs.declared.message.ClientBody.TheVariants as to_client
use Rattle.message.specs.declared.message.ToClient.{ToClient}
use Rattle.message.specs.declared.message.ToVoter.{ToVoter}
use Rattle.message.specs.declared.message.VoterBody.{VoterBody}
use Rattle.message.specs.declared.message.VoterBody.TheVariants as to_voter
use Rattle.requester.specs.declared.fault.ClientFault.{ClientFault}
use Rattle.requester.specs.declared.state.ClientState.{ClientState}
use Rattle.requester.specs.declared.state.Phase.{Phase as ClientPhase}
use Rattle.requester.specs.declared.state.Phase.TheVariants.{Idle, Asking, Inside}
use Rattle.requester.specs.Soundness.{IsHeldWell, IsSound}
use Rattle.requester.specs.Steps.{Outcome, ask, give_up, leave, see, take}
use Rattle.requester.specs.Votes.{IsGiving, IsReleasing, KeepsRequest}
use Rattle.requester.specs.Words.{is_asking, is_current, is_idle, is_inside, members}
use Rattle.requester.proofs.Messages.{KeepsRequest-take, SendsBack-take}
use Rattle.requester.proofs.RangeLemmas.{is_inside-busy}
use Rattle.requester.proofs.SoundSteps.{IsSound-ask, IsSound-give_up, IsSound-leave, IsSound-take, ask-Ok, give_up-Ok, is_asking-outside, leave-Ok}
use Rattle.working.specs.Events.{IsOneOf, World}
use Rattle.working.specs.Voters.{Grant, Locked as Message, grant_of, set}
use Rattle.working.proofs.Lists.{both}
use Rattle.vote_leases.specs.Leases.{asked, beat_of, counts as vote_counts, ended, given_back, is_taken, kept, taken}
use Rattle.vote_leases.specs.Sessions.{Kept, locked_of as header_of, locked_to, with_vote}
use Rattle.vote_leases.specs.declared.incarnation.Incarnation.{Incarnation}
use Rattle.vote_leases.specs.declared.lease.VoterLease.{VoterLease}
use Rattle.vote_leases.specs.declared.vote.Locked.{Locked}
use Rattle.vote_leases.specs.declared.vote.Vote.{Vote}
use Rattle.vote_leases.proofs.Evidence.{and_true}
use Rattle.callers.specs.Calls.{handed, has_lock, is_under, may_end, may_hand, unwanted, with_holder}
use Rattle.callers.specs.Steps.{CallStep, Closes, Empties, Hands, HasLock, MayBeLost, RefusesTries, Unlocks, Unwants, Wants, call_stepped}
use Rattle.callers.specs.Worlds.{AllAsTold, Caller, CallerStep, HasVotesTo, IsHanded, ToCalls, caller_after, caller_then, until_then, world_then}
use Rattle.callers.specs.declared.calls.Calls.{Calls}
use Rattle.callers.specs.declared.calls.Holder.{Holder}
use Rattle.callers.specs.declared.calls.Phase.TheVariants as seen_as
use Rattle.callers.proofs.CallLemmas.{loses_had, refuses_had, unlocks_had, unwants_had, wants_had}
use Rattle.client_node.specs.Locks.{Lock, all_noted, asked_with, brought, counts, ended_with, hand_lock, is_before, is_had_inside, kept_at, locked_of, noted_body, phase_in, phase_of, raise_lock, returned_to, take_lock, taken_at, until, with_calls}
use Rattle.client_node.specs.Worlds.{AreOwn, AsksQuorum, CallComes, CallGoes, CallUnlocks, ClosesLock, FailsCalls, GivesUpLock, HandsLock, IsMet, KeepsVote, LeavesLock, LockStep, LosesLock, RaisesClock, RefusesTry, TakesMessage, TellsCall, WasSaid, asked_steps, body_steps, brought_steps, ended_steps, is_taken_at, kept_steps, lock_or, lock_stepped, lock_steps, runs_at, said_steps, taken_if, time_of, told_steps, world_after_all}
use Rattle.client_node.specs.declared.fault.LockFault.TheVariants.{HasLock as LockIsHad}
use Rattle.client_node.proofs.Sound.{had_asked, had_took}
use Rattle.client_node.proofs.Stands.{AreVotes, Stands, got_other, got_same, had_under, has_votes, if_own, own, still_had, votes_mapped, votes_set}

-- These steps are as told, and what is kept stands for this lock afterwards.
pub record Goes (ttl lease span me : ℕ) (quorums : List (List ℕ)) (w : World) (o : Caller) (l : Lock) (steps : List CallerStep) : Type 0 where
  pub told : AllAsTold ttl lease span me quorums w o steps
  pub stands : Stands quorums (caller_after ttl lease span me w o steps) l

none_goes : (ttl lease span me : ℕ) (quorums : List (List ℕ)) (w : World) (o : Caller) (l : Lock) → Stands quorums o l → Goes ttl lease span me quorums w o l []
none_goes ttl lease span me quorums w o l stands = record { told = tt; stands = stands }

pub goes_on : (ttl lease span me : ℕ) (quorums : List (List ℕ)) (w : World) (o : Caller) (l : Lock) (steps rest : List CallerStep) → AllAsTold ttl lease span me quorums w o steps
    → Goes ttl lease span me quorums (world_after_all ttl span w steps) (caller_after ttl lease span me w o steps) l rest → Goes ttl lease span me quorums w o l (steps ++ rest)
goes_on ttl lease span me quorums w o l [] rest told later = later
goes_on ttl lease span me quorums w o l (s ∷ steps) rest told later =
    let on = goes_on ttl lease span me quorums (world_then ttl span w s) (caller_then lease me w o s) l steps rest told.1 later in record {
      told = (told.0, on.told);
      stands = on.stands;
    }

-- ---- what comes to the calls

call_goes : (ttl lease span me : ℕ) (quorums : List (List ℕ)) (w : World) (o : Caller) (l : Lock) (s : CallStep) (time : ℕ) → Stands quorums o l → IsHanded lease quorums o s time
    → is_had_inside l.client (call_stepped l.calls s).holder ≡ true
    → Goes ttl lease span me quorums w o (with_calls l (call_stepped l.calls s)) (ToCalls me s time ∷ [])
call_goes ttl lease span me quorums w o l s time stands handed had =
    let next : Caller = record { kept = o.kept; calls = call_stepped o.calls s; until = until_then o.calls s time o.until } in record {
      told = (if_own (me == me) (IsHanded lease quorums o s time) handed, tt);
      stands = subst (λ (x : Caller). Stands quorums x (with_calls l (call_stepped l.calls s))) (sym (own me next o)) (record {
        calls = ap (λ (c : Calls). call_stepped c s) stands.calls;
        votes = stands.votes;
        client = stands.client;
        had = had;
        quorum = stands.quorum;
      });
    }

-- one that hands the lock to nobody
other_call_goes : (ttl lease span me : ℕ) (quorums : List (List ℕ)) (w : World) (o : Caller) (l : Lock) (s : CallStep) → Stands quorums o l → IsHanded lease quorums o s 0
    → ((request : ℕ) → HasLock (call_stepped l.calls s) request → HasLock l.calls request)
    → Goes ttl lease span me quorums w o (with_calls l (call_stepped l.calls s)) (ToCalls me s 0 ∷ [])
other_call_goes ttl lease span me quorums w o l s stands handed before =
    call_goes ttl lease span me quorums w o l s 0 stands handed (still_had l.client l.calls (call_stepped l.calls s) before stands.had)

-- the lock is handed only while the client is inside
handed_told : (lease : ℕ) (quorums : List (List ℕ)) (o : Caller) (phase : ClientPhase) (stamp : ℕ) (counts : Bool) (time : ℕ)
    → (may_hand o.calls (seen_as.Inside stamp) counts ≡ true → HasVotesTo lease quorums o.kept stamp time) → IsHanded lease quorums o (Hands (phase_in phase stamp) counts) time
handed_told lease quorums o Idle stamp counts time has = tt
handed_told lease quorums o Asking stamp counts time has = tt
handed_told lease quorums o Inside stamp counts time has = has

handed_if : (x : ClientState) (c : Calls) (may : Bool) → is_inside x.phase ≡ true → is_had_inside x c.holder ≡ true
    → is_had_inside x (if may then with_holder (unwanted c c.is_tried) x.stamp else c).holder ≡ true
handed_if x c true inside is = and_true (is_inside x.phase) (x.stamp == x.stamp) inside (eq-eqb x.stamp x.stamp refl)
handed_if x c false inside is = is

handed_had : (x : ClientState) (c : Calls) (phase : ClientPhase) (counts : Bool) → x.phase ≡ phase → is_had_inside x c.holder ≡ true
    → is_had_inside x (handed c (phase_in phase x.stamp) counts).holder ≡ true
handed_had x c Idle counts same is = is
handed_had x c Asking counts same is = is
handed_had x c Inside counts same is = handed_if x c (may_hand c (seen_as.Inside x.stamp) counts) (ap is_inside same) is

counted_to : (now : ℕ) (end : Option ℕ) → is_before now end ≡ true → end ≡ Some (time_of end)
counted_to now None is = absurd (false≢true is)
counted_to now (Some end) is = refl

hand_goes : (ttl lease span me : ℕ) (quorums : List (List ℕ)) (w : World) (o : Caller) (l : Lock) (leases : List VoterLease) (now : ℕ) → Stands quorums o l → AreOwn leases o.kept
    → Goes ttl lease span me quorums w o (hand_lock l leases lease now) (ToCalls me (Hands (phase_of l.client) (counts l leases lease now)) (time_of (until l leases lease)) ∷ [])
hand_goes ttl lease span me quorums w o l leases now stands are =
    call_goes ttl lease span me quorums w o l (Hands (phase_of l.client) (counts l leases lease now)) (time_of (until l leases lease)) stands
    (handed_told lease quorums o l.client.phase l.client.stamp (counts l leases lease now) (time_of (until l leases lease))
    (λ may. has_votes quorums lease (time_of (until l leases lease)) o l leases stands are
    (counted_to now (until l leases lease)
    (both (counts l leases lease now) _ may).0)))
    (handed_had l.client l.calls l.client.phase (counts l leases lease now) refl stands.had)

-- ---- the call is told up to when

tell_goes : (ttl lease span me : ℕ) (quorums : List (List ℕ)) (w : World) (o : Caller) (l : Lock) (leases : List VoterLease) (has : Bool) (end : Option ℕ) → Stands quorums o l
    → AreOwn leases o.kept → until l leases lease ≡ end → Goes ttl lease span me quorums w o l (told_steps me (if has then end else None))
tell_goes ttl lease span me quorums w o l leases false end stands are is = none_goes ttl lease span me quorums w o l stands
tell_goes ttl lease span me quorums w o l leases true None stands are is = none_goes ttl lease span me quorums w o l stands
tell_goes ttl lease span me quorums w o l leases true (Some time) stands are is =
    let next : Caller = record { kept = o.kept; calls = o.calls; until = max o.until time } in record {
      told = (
        if_own (me == me) ((request : ℕ) → HasLock o.calls request → HasVotesTo lease quorums o.kept request time)
            (λ request has. subst (λ (r : ℕ). HasVotesTo lease quorums o.kept r time)
            (eqb-true l.client.stamp request (both (is_inside l.client.phase) (l.client.stamp == request)
            (had_under l.client l.calls request stands.had (subst (λ (c : Calls). HasLock c request) stands.calls has))).1)
            (has_votes quorums lease time o l leases stands are is)),
        tt,
      );
      stands = subst (λ (x : Caller). Stands quorums x l) (sym (own me next o)) (record {
        calls = stands.calls;
        votes = stands.votes;
        client = stands.client;
        had = stands.had;
        quorum = stands.quorum;
      });
    }

-- ---- the steps of the client

own_votes : (me : ℕ) (votes : List Vote) (a k : Kept) → AreVotes votes a.votes → AreVotes votes (if me == me then a else k).votes
own_votes me votes a k are = subst (λ (x : Kept). AreVotes votes x.votes) (sym (own me a k)) are

asks_by : (ttl lease span me : ℕ) (quorums : List (List ℕ)) (w : World) (o : Caller) (l : Lock) (quorum : List ℕ) (r : Result Outcome ClientFault) → Stands quorums o l
    → IsOneOf quorum quorums × IsSet quorum × (1 ≤ length quorum) → ask l.client quorum ≡ r
    → Goes ttl lease span me quorums w o (lock_or l (asked_with l r)) (asked_steps me (asked_with l r))
asks_by ttl lease span me quorums w o l quorum (Err fault) stands met is = none_goes ttl lease span me quorums w o l stands
asks_by ttl lease span me quorums w o l quorum (Ok p) stands met is = record {
  told = (tt, tt);
  stands = record {
    calls = stands.calls;
    votes = own_votes me _ (record { leases = o.kept.leases; votes = λ voter. asked (o.kept.votes voter) p.state.stamp }) o.kept (votes_mapped (λ v. asked v p.state.stamp) l.votes o.kept.votes stands.votes);
    client = IsSound-ask l.client quorum p stands.client met.1 met.2 is;
    had = had_asked l.client quorum p l.calls.holder stands.had is;
    quorum = λ busy. subst (λ (x : Outcome). IsOneOf (members x.state) quorums) (ask-Ok l.client quorum p is).2 met.0;
  };
}

-- no call has the lock under a request that may end
ended_had : (x y : ClientState) (o : Option Holder) → is_had_inside x o ≡ true → not (is_under o x.stamp) ≡ true → is_had_inside y o ≡ true
ended_had x y None is may = refl
ended_had x y (Some h) is may =
    let same = eqb-true x.stamp h.request (both (is_inside x.phase) (x.stamp == h.request) is).1 in
    absurd (false≢true (ap not (sym (eq-eqb h.request x.stamp (sym same))) ∙ may))

ends_by : (ttl lease span me : ℕ) (quorums : List (List ℕ)) (w : World) (o : Caller) (l : Lock) (r : Result Outcome ClientFault) (may : Bool) → Stands quorums o l
    → ((p : Outcome) → r ≡ Ok p → IsSound p.state × (is_idle p.state.phase ≡ true)) → may_end l.calls l.client.stamp ≡ may
    → Goes ttl lease span me quorums w o (lock_or l (if may then ended_with l r else Err LockIsHad)) (ended_steps me l.client.stamp (if may then ended_with l r else Err LockIsHad))
ends_by ttl lease span me quorums w o l r false stands after is = none_goes ttl lease span me quorums w o l stands
ends_by ttl lease span me quorums w o l (Err fault) true stands after is = none_goes ttl lease span me quorums w o l stands
ends_by ttl lease span me quorums w o l (Ok p) true stands after is = record {
  told = (if_own (me == me) (may_end o.calls l.client.stamp ≡ true) (ap (λ (c : Calls). may_end c l.client.stamp) stands.calls ∙ is), tt);
  stands = record {
    calls = stands.calls;
    votes = own_votes me _ (record { leases = o.kept.leases; votes = λ voter. ended (o.kept.votes voter) l.client.stamp }) o.kept (votes_mapped (λ v. ended v l.client.stamp) l.votes o.kept.votes stands.votes);
    client = (after p refl).0;
    had = ended_had l.client p.state l.calls.holder stands.had is;
    quorum = λ busy. absurd (false≢true (sym busy ∙ (after p refl).1));
  };
}

left_after : (x : ClientState) (p : Outcome) → IsSound x → leave x ≡ Ok p → IsSound p.state × (is_idle p.state.phase ≡ true)
left_after x p sound is =
    (IsSound-leave x p sound is, subst (λ (q : Outcome). is_idle q.state.phase ≡ true) (leave-Ok x p is).1 refl)

given_up_after : (x : ClientState) (p : Outcome) → IsSound x → give_up x ≡ Ok p → IsSound p.state × (is_idle p.state.phase ≡ true)
given_up_after x p sound is =
    (IsSound-give_up x p sound is, subst (λ (q : Outcome). is_idle q.state.phase ≡ true) (give_up-Ok x p is).1 refl)

stands_seen : (x : ClientState) (clock : ℕ) (o : Option Holder) → is_had_inside x o ≡ true → is_had_inside (see x clock) o ≡ true
stands_seen x clock None is = refl
stands_seen x clock (Some h) is = is

busy_before : (x : ClientState) (m : ToClient) (p : Outcome) → KeepsRequest x m p → is_idle p.state.phase ≡ false → is_idle x.phase ≡ false
busy_before x m p k busy = elim k.phase [ inl same ↦ ap is_idle (sym same.0) ∙ busy | inr enters ↦ enters.busy ]

held_seen : (x : ClientState) (clock v : ℕ) → IsHeldWell x v → IsHeldWell (see x clock) v
held_seen x clock v h = record { busy = h.busy; member = h.member; fresh = h.fresh }

seen_sound : (x : ClientState) (clock : ℕ) → IsSound x → IsSound (see x clock)
seen_sound x clock s =
    let later = s.clock in record {
      id = s.id;
      some = s.some;
      limit = s.limit;
      places = record { held = s.places.held; last = s.places.last };
      stamp = s.stamp;
      clock = (omega arith);
      stamped = s.stamped;
      quorum = s.quorum;
      asked = s.asked;
      held = λ v h. held_seen x clock v (s.held v h);
      inside = s.inside;
      inquired = s.inquired;
      relinquished = s.relinquished;
    }

-- ---- what a vote keeps

keeps_by : (ttl lease span me : ℕ) (quorums : List (List ℕ)) (w : World) (o : Caller) (l : Lock) (voter : ℕ) (one : Option Vote) (other : Option VoterLease) → Stands quorums o l
    → ((v : Vote) → one ≡ Some v → v ≡ o.kept.votes voter) → ((m : VoterLease) → other ≡ Some m → m ≡ o.kept.leases voter)
    → Goes ttl lease span me quorums w o (record { client = l.client; votes = kept_at l.votes voter one other; calls = l.calls }) (kept_steps me voter one other)
keeps_by ttl lease span me quorums w o l voter None other stands are own = none_goes ttl lease span me quorums w o l stands
keeps_by ttl lease span me quorums w o l voter (Some v) None stands are own = none_goes ttl lease span me quorums w o l stands
keeps_by ttl lease span me quorums w o l voter (Some v) (Some m) stands are own = record {
  told = (tt, tt);
  stands = record {
    calls = stands.calls;
    votes = own_votes me _ (with_vote o.kept voter (kept (o.kept.votes voter) (o.kept.leases voter))) o.kept
        (subst (λ (y : Vote). AreVotes (slice_set l.votes voter (kept v m)) (set o.kept.votes voter y))
        (ap (λ (x : Vote). kept x m) (are v refl) ∙ ap (kept (o.kept.votes voter)) (own m refl))
        (votes_set l.votes o.kept.votes voter (kept v m) stands.votes));
    client = stands.client;
    had = stands.had;
    quorum = stands.quorum;
  };
}

-- ---- what a message brings

-- a vote that does not change
votes_put : (votes : List Vote) (kept : ℕ → Vote) (place : ℕ) (y : Vote) → y ≡ kept place → AreVotes votes kept → AreVotes (slice_set votes place y) kept
votes_put votes kept place y same are voter v is =
    elim (place == voter) as (λ b. (place == voter) ≡ b → v ≡ kept voter) [
      | true ↦ λ e.
          let here = eqb-true place voter e in
          got_same votes place y v (subst (λ (p : ℕ). slice_get (slice_set votes place y) p ≡ Some v) (sym here) is) ∙ same ∙ ap kept here
      | false ↦ λ e. are voter v (got_other votes place voter y v (λ back. false≢true (sym e ∙ eq-eqb place voter (sym back))) is)
    ] refl

if_true : {X : Type 0} (b : Bool) (x y : X) → b ≡ true → (if b then x else y) ≡ x
if_true true x y is = refl
if_true false x y is = absurd (false≢true is)

if_false : {X : Type 0} (b : Bool) (x y : X) → b ≡ false → (if b then x else y) ≡ y
if_false false x y is = refl
if_false true x y is = absurd (false≢true (sym is))

or_counts : (renews inside count : Bool) → (renews ≡ true → inside ≡ true) → (not inside || count) ≡ true → (not renews || count) ≡ true
or_counts false inside count more is = refl
or_counts true true count more is = is
or_counts true false count more is = absurd (false≢true (more refl))

-- it is taken also as one that renews less
still_taken : (v : Vote) (l : VoterLease) (i : Incarnation) (stamp number span now : ℕ) (inside renews : Bool)
    → is_taken v l (locked_of inside i stamp number) span now ≡ true → (renews ≡ true → (v.is_open && v.request == stamp) ≡ true → inside ≡ true)
    → is_taken v l (locked_of renews i stamp number) span now ≡ true
still_taken v l i stamp number span now inside renews is more =
    let first = both v.is_open _ is in
    let second = both (v.request == stamp) _ first.1 in
    let third = both (nat_lt v.returned number) _ second.1 in
    and_true v.is_open _ first.0 (and_true (v.request == stamp) _ second.0 (and_true (nat_lt v.returned number) _ third.0
    (or_counts renews inside (vote_counts v l span now) (λ re. more re (and_true v.is_open (v.request == stamp) first.0 second.0)) third.1)))

taken_same : (v : Vote) (l : VoterLease) (i : Incarnation) (stamp number span now : ℕ) (inside renews : Bool)
    → is_taken v l (locked_of inside i stamp number) span now ≡ true → (renews ≡ true → (v.is_open && v.request == stamp) ≡ true → inside ≡ true)
    → taken v l (locked_of inside i stamp number) span now ≡ taken v l (locked_of renews i stamp number) span now
taken_same v l i stamp number span now inside renews is more =
    let y : Vote = record { request = v.request; is_open = v.is_open; returned = v.returned; taken = Some (record { incarnation = i; beat = beat_of v.taken l }) } in
    if_true (is_taken v l (locked_of inside i stamp number) span now) y v is
    ∙ sym (if_true (is_taken v l (locked_of renews i stamp number) span now) y v (still_taken v l i stamp number span now inside renews is more))

-- the LOCKED as its header says it, for the grant that its place names
header_is : (i : Incarnation) (m : Message) (g : Grant) → m.grant ≡ g → header_of i m ≡ locked_of m.renews i g.request g.number
header_is i m g same = ap (λ (x : Grant). header_of i (record { grant = x; lapses = m.lapses; renews = m.renews })) same

-- a LOCKED reaches the session, which takes it
reaches : (lease now me voter place : ℕ) (w : World) (k : Kept) (i : Incarnation) (m : Message) (stamp number : ℕ) (told : Option Message) → told ≡ Some m → m.grant ≡ grant_of me stamp number
    → locked_to lease now me k voter i told ≡ with_vote k voter (taken (k.votes voter) (k.leases voter) (locked_of m.renews i stamp number) lease now)
reaches lease now me voter place w k i m stamp number told is grant =
    ap (λ (t : Option Message). locked_to lease now me k voter i t) is
    ∙ if_true (m.grant.session == me) (with_vote k voter (taken (k.votes voter) (k.leases voter) (header_of i m) lease now)) k (eq-eqb m.grant.session me (ap (λ (g : Grant). g.session) grant))
    ∙ ap (λ (x : Locked). with_vote k voter (taken (k.votes voter) (k.leases voter) x lease now)) (header_is i m (grant_of me stamp number) grant)

brings_by : (ttl lease span me : ℕ) (quorums : List (List ℕ)) (w : World) (o : Caller) (l : Lock) (voter place stamp number now : ℕ) (i : Incarnation) (m : Message) (v : Vote) (n : VoterLease) (is_one : Bool)
    → Stands quorums o l → v ≡ o.kept.votes voter → n ≡ o.kept.leases voter → now ≡ (w.sessions me).time
    → slice_get (w.voters voter).told place ≡ Some m → m.grant ≡ grant_of me stamp number
    → (m.renews ≡ true → (v.is_open && v.request == stamp) ≡ true → is_inside l.client.phase ≡ true)
    → is_taken v n (locked_of (is_inside l.client.phase) i stamp number) lease now ≡ is_one
    → Goes ttl lease span me quorums w o (record { client = l.client; votes = slice_set l.votes voter (taken v n (locked_of (is_inside l.client.phase) i stamp number) lease now); calls = l.calls })
    (taken_if is_one me voter place i)
brings_by ttl lease span me quorums w o l voter place stamp number now i m v n false stands is own time told grant more taken_is = record {
  told = tt;
  stands = record {
    calls = stands.calls;
    votes = votes_put l.votes o.kept.votes voter (taken v n (locked_of (is_inside l.client.phase) i stamp number) lease now)
        (if_false (is_taken v n (locked_of (is_inside l.client.phase) i stamp number) lease now) _ v taken_is ∙ is) stands.votes;
    client = stands.client;
    had = stands.had;
    quorum = stands.quorum;
  };
}
brings_by ttl lease span me quorums w o l voter place stamp number now i m v n true stands is own time told grant more taken_is = record {
  told = (tt, tt);
  stands = record {
    calls = stands.calls;
    votes = own_votes me _ (locked_to lease (w.sessions me).time me o.kept voter i (slice_get (w.voters voter).told place)) o.kept
        (subst (λ (k : Kept). AreVotes (slice_set l.votes voter (taken v n (locked_of (is_inside l.client.phase) i stamp number) lease now)) k.votes)
        (sym (reaches lease (w.sessions me).time me voter place w o.kept i m stamp number (slice_get (w.voters voter).told place) told grant))
        (subst (λ (y : Vote). AreVotes (slice_set l.votes voter (taken v n (locked_of (is_inside l.client.phase) i stamp number) lease now)) (set o.kept.votes voter y))
        (taken_same v n i stamp number lease now (is_inside l.client.phase) m.renews taken_is more
        ∙ ap (λ (x : Vote). taken x n (locked_of m.renews i stamp number) lease now) is
        ∙ ap (λ (x : VoterLease). taken (o.kept.votes voter) x (locked_of m.renews i stamp number) lease now) own
        ∙ ap (λ (t : ℕ). taken (o.kept.votes voter) (o.kept.leases voter) (locked_of m.renews i stamp number) lease t) time)
        (votes_set l.votes o.kept.votes voter (taken v n (locked_of (is_inside l.client.phase) i stamp number) lease now) stands.votes)));
    client = stands.client;
    had = stands.had;
    quorum = stands.quorum;
  };
}

-- by the vote and the lease that are there
brings_at : (ttl lease span me : ℕ) (quorums : List (List ℕ)) (w : World) (o : Caller) (l : Lock) (voter place stamp number now : ℕ) (i : Incarnation) (m : Message) (one : Option Vote) (other : Option VoterLease)
    → Stands quorums o l → ((v : Vote) → one ≡ Some v → v ≡ o.kept.votes voter) → ((n : VoterLease) → other ≡ Some n → n ≡ o.kept.leases voter) → now ≡ (w.sessions me).time
    → slice_get (w.voters voter).told place ≡ Some m → m.grant ≡ grant_of me stamp number
    → (m.renews ≡ true → runs_at stamp one ≡ true → is_inside l.client.phase ≡ true)
    → Goes ttl lease span me quorums w o (record { client = l.client; votes = taken_at lease now l.votes voter (locked_of (is_inside l.client.phase) i stamp number) one other; calls = l.calls })
    (taken_if (is_taken_at lease now (locked_of (is_inside l.client.phase) i stamp number) one other) me voter place i)
brings_at ttl lease span me quorums w o l voter place stamp number now i m None other stands are own time told grant more = none_goes ttl lease span me quorums w o l stands
brings_at ttl lease span me quorums w o l voter place stamp number now i m (Some v) None stands are own time told grant more = none_goes ttl lease span me quorums w o l stands
brings_at ttl lease span me quorums w o l voter place stamp number now i m (Some v) (Some n) stands are own time told grant more =
    brings_by ttl lease span me quorums w o l voter place stamp number now i m v n (is_taken v n (locked_of (is_inside l.client.phase) i stamp number) lease now) stands (are v refl) (own n refl) time told grant more refl

brings : (ttl lease span me : ℕ) (quorums : List (List ℕ)) (w : World) (o : Caller) (l : Lock) (voter place now : ℕ) (i : Incarnation) (leases : List VoterLease) (body : ClientBody)
    → Stands quorums o l → AreOwn leases o.kept → now ≡ (w.sessions me).time → WasSaid me w l voter body place
    → Goes ttl lease span me quorums w o (record { client = l.client; votes = brought (is_inside l.client.phase) i leases lease now l.votes voter body; calls = l.calls })
    (brought_steps me (is_inside l.client.phase) i leases lease now l.votes voter body place)
brings ttl lease span me quorums w o l voter place now i leases (to_client.Locked stamp number) stands own time said =
    brings_at ttl lease span me quorums w o l voter place stamp number now i said.0 (slice_get l.votes voter) (slice_get leases voter) stands (stands.votes voter) (own voter) time said.1 said.2 said.3
brings ttl lease span me quorums w o l voter place now i leases (to_client.Fail stamp) stands own time said = none_goes ttl lease span me quorums w o l stands
brings ttl lease span me quorums w o l voter place now i leases (to_client.Inquire number) stands own time said = none_goes ttl lease span me quorums w o l stands

-- ---- what leaves

-- This may leave: no request ends under which a call has the lock, and no vote goes back while one has it.
abbrev MayLeave : Calls → VoterBody → Type 0
MayLeave c (to_voter.Request stamp) = Unit {0}
MayLeave c (to_voter.Relinquish number) = has_lock c ≡ false
MayLeave c (to_voter.Release stamp) = may_end c stamp ≡ true

returned_by : (ttl lease span me : ℕ) (quorums : List (List ℕ)) (w : World) (o : Caller) (l : Lock) (voter number : ℕ) (one : Option Vote) → Stands quorums o l
    → slice_get l.votes voter ≡ one → AreVotes (returned_to l.votes voter number one) (set o.kept.votes voter (given_back (o.kept.votes voter) number))
returned_by ttl lease span me quorums w o l voter number None stands is = λ other v has.
    elim (voter == other) as (λ b. (voter == other) ≡ b → v ≡ (if b then given_back (o.kept.votes voter) number else o.kept.votes other)) [
      | true ↦ λ e. absurd (none-some v (sym is ∙ ap (slice_get l.votes) (eqb-true voter other e) ∙ has))
      | false ↦ λ e. stands.votes other v has
    ] refl
returned_by ttl lease span me quorums w o l voter number (Some x) stands is =
    subst (λ (y : Vote). AreVotes (slice_set l.votes voter (given_back x number)) (set o.kept.votes voter y)) (ap (λ (z : Vote). given_back z number) (stands.votes voter x is))
    (votes_set l.votes o.kept.votes voter (given_back x number) stands.votes)

leaves_one : (ttl lease span me : ℕ) (quorums : List (List ℕ)) (w : World) (o : Caller) (l : Lock) (voter : ℕ) (body : VoterBody) → Stands quorums o l → MayLeave l.calls body
    → Goes ttl lease span me quorums w o (record { client = l.client; votes = noted_body l.votes voter body; calls = l.calls }) (body_steps me voter body)
leaves_one ttl lease span me quorums w o l voter (to_voter.Request stamp) stands may = none_goes ttl lease span me quorums w o l stands
leaves_one ttl lease span me quorums w o l voter (to_voter.Relinquish number) stands may = record {
  told = (if_own (me == me) (has_lock o.calls ≡ false) (ap has_lock stands.calls ∙ may), tt);
  stands = record {
    calls = stands.calls;
    votes = own_votes me _ (with_vote o.kept voter (given_back (o.kept.votes voter) number)) o.kept
        (returned_by ttl lease span me quorums w o l voter number (slice_get l.votes voter) stands refl);
    client = stands.client;
    had = stands.had;
    quorum = stands.quorum;
  };
}
leaves_one ttl lease span me quorums w o l voter (to_voter.Release stamp) stands may = record {
  told = (if_own (me == me) (may_end o.calls stamp ≡ true) (ap (λ (c : Calls). may_end c stamp) stands.calls ∙ may), tt);
  stands = record {
    calls = stands.calls;
    votes = own_votes me _ (record { leases = o.kept.leases; votes = λ v. ended (o.kept.votes v) stamp }) o.kept (votes_mapped (λ v. ended v stamp) l.votes o.kept.votes stands.votes);
    client = stands.client;
    had = stands.had;
    quorum = stands.quorum;
  };
}

leaves : (ttl lease span me : ℕ) (quorums : List (List ℕ)) (w : World) (o : Caller) (l : Lock) (out : List ToVoter) → Stands quorums o l → AllByRecursion (λ n. MayLeave l.calls n.body) out
    → Goes ttl lease span me quorums w o (record { client = l.client; votes = all_noted l.votes out; calls = l.calls }) (said_steps me out)
leaves ttl lease span me quorums w o l [] stands may = none_goes ttl lease span me quorums w o l stands
leaves ttl lease span me quorums w o l (n ∷ out) stands may =
    let one = leaves_one ttl lease span me quorums w o l n.voter n.body stands may.0 in
    goes_on ttl lease span me quorums w o _ (body_steps me n.voter n.body) (said_steps me out) one.told
    (leaves ttl lease span me quorums (world_after_all ttl span w (body_steps me n.voter n.body)) (caller_after ttl lease span me w o (body_steps me n.voter n.body))
    (record { client = l.client; votes = noted_body l.votes n.voter n.body; calls = l.calls }) out one.stands may.1)

-- who has no call that has the lock
no_call : (x : ClientState) (c : Calls) (holder : Option Holder) → c.holder ≡ holder → is_had_inside x holder ≡ true → is_asking x.phase ≡ true → has_lock c ≡ false
no_call x c None is had asking = ap is_some is
no_call x c (Some h) is had asking =
    absurd (false≢true (sym (is_asking-outside x.phase asking) ∙ (both (is_inside x.phase) (x.stamp == h.request) had).0))

current_same : (x : ClientState) (stamp : ℕ) → is_inside x.phase ≡ true → is_current x stamp ≡ false → x.stamp ≡ stamp → ⊥
current_same x stamp inside over same =
    false≢true (sym over ∙ and_true (not (is_idle x.phase)) (stamp == x.stamp) (ap not (is_inside-busy x.phase inside)) (eq-eqb stamp x.stamp (sym same)))

over_may_end : (x : ClientState) (stamp : ℕ) (holder : Option Holder) → is_had_inside x holder ≡ true → is_current x stamp ≡ false → not (is_under holder stamp) ≡ true
over_may_end x stamp None had over = refl
over_may_end x stamp (Some h) had over =
    elim (h.request == stamp) as (λ b. (h.request == stamp) ≡ b → not b ≡ true) [
      | false ↦ λ e. refl
      | true ↦ λ e.
          let parts = both (is_inside x.phase) (x.stamp == h.request) had in
          absurd (current_same x stamp parts.0 over (eqb-true x.stamp h.request parts.1 ∙ eqb-true h.request stamp e))
    ] refl

may_leave : (x : ClientState) (c : Calls) (m : ToClient) (p : Outcome) (n : ToVoter) → is_had_inside x c.holder ≡ true → IsGiving m x p n ⊎ IsReleasing m x n → MayLeave c n.body
may_leave x c m p n had (inl giving) = subst (λ (b : VoterBody). MayLeave c b) (sym giving.body) (no_call x c c.holder refl had giving.vote.asking)
may_leave x c m p n had (inr releasing) = subst (λ (b : VoterBody). MayLeave c b) (sym releasing.body) (over_may_end x releasing.stamp c.holder had releasing.over)

all_may_leave : (x : ClientState) (c : Calls) (m : ToClient) (p : Outcome) (out : List ToVoter) → is_had_inside x c.holder ≡ true → AllByRecursion (λ n. IsGiving m x p n ⊎ IsReleasing m x n) out
    → AllByRecursion (λ n. MayLeave c n.body) out
all_may_leave x c m p [] had all = tt
all_may_leave x c m p (n ∷ out) had all = (may_leave x c m p n had all.0, all_may_leave x c m p out had all.1)

-- the client after a message
taken_client : (quorums : List (List ℕ)) (o : Caller) (x : ClientState) (m : ToClient) (votes : List Vote) (calls : Calls) → Stands quorums o (record { client = x; votes = votes; calls = calls })
    → Stands quorums o (record { client = (take x m).state; votes = votes; calls = calls })
taken_client quorums o x m votes calls stands =
    let k = KeepsRequest-take x m in record {
      calls = stands.calls;
      votes = stands.votes;
      client = IsSound-take x m stands.client;
      had = had_took x m calls.holder stands.had;
      quorum = λ busy. subst (λ (q : List ℕ). IsOneOf q quorums) (sym (ap (λ q. q.items) k.quorum)) (stands.quorum (busy_before x m (take x m) k busy));
    }

take_goes : (ttl lease span me : ℕ) (quorums : List (List ℕ)) (w : World) (o : Caller) (l : Lock) (m : ToClient) (i : Incarnation) (leases : List VoterLease) (now place : ℕ) → Stands quorums o l
    → AreOwn leases o.kept → now ≡ (w.sessions me).time → WasSaid me w l m.voter m.body place
    → Goes ttl lease span me quorums w o (take_lock l i leases lease now m).lock (lock_steps lease me l (TakesMessage m i leases now place))
take_goes ttl lease span me quorums w o l m i leases now place stands own time said =
    let steps = brought_steps me (is_inside l.client.phase) i leases lease now l.votes m.voter m.body place in
    let votes = brought (is_inside l.client.phase) i leases lease now l.votes m.voter m.body in
    let one = brings ttl lease span me quorums w o l m.voter place now i leases m.body stands own time said in
    let rest = leaves ttl lease span me quorums (world_after_all ttl span w steps) (caller_after ttl lease span me w o steps)
    (record { client = l.client; votes = votes; calls = l.calls }) (take l.client m).out one.stands
    (all_may_leave l.client l.calls m (take l.client m) (take l.client m).out stands.had (SendsBack-take l.client m stands.client)) in
    goes_on ttl lease span me quorums w o (take_lock l i leases lease now m).lock steps (said_steps me (take l.client m).out) one.told
    (record {
      told = rest.told;
      stands = taken_client quorums _ l.client m (all_noted votes (take l.client m).out) l.calls rest.stands;
    })

-- ---- each step of a lock

pub lock_goes : (ttl lease span me : ℕ) (quorums : List (List ℕ)) (w : World) (o : Caller) (l : Lock) (s : LockStep) → Stands quorums o l → IsMet me quorums w o.kept l s
    → Goes ttl lease span me quorums w o (lock_stepped lease l s) (lock_steps lease me l s)
lock_goes ttl lease span me quorums w o l (AsksQuorum quorum) stands met = asks_by ttl lease span me quorums w o l quorum (ask l.client quorum) stands met refl
lock_goes ttl lease span me quorums w o l (TakesMessage m i leases now place) stands met = take_goes ttl lease span me quorums w o l m i leases now place stands met.2 met.3 met.4
lock_goes ttl lease span me quorums w o l LeavesLock stands met =
    ends_by ttl lease span me quorums w o l (leave l.client) (may_end l.calls l.client.stamp) stands (λ p is. left_after l.client p stands.client is) refl
lock_goes ttl lease span me quorums w o l GivesUpLock stands met =
    ends_by ttl lease span me quorums w o l (give_up l.client) (may_end l.calls l.client.stamp) stands (λ p is. given_up_after l.client p stands.client is) refl
lock_goes ttl lease span me quorums w o l (RaisesClock clock) stands met =
    none_goes ttl lease span me quorums w o (raise_lock l clock)
    (record { calls = stands.calls; votes = stands.votes; client = seen_sound l.client clock stands.client; had = stands_seen l.client clock l.calls.holder stands.had; quorum = stands.quorum })
lock_goes ttl lease span me quorums w o l (KeepsVote leases voter) stands met =
    keeps_by ttl lease span me quorums w o l voter (slice_get l.votes voter) (slice_get leases voter) stands (stands.votes voter) (met voter)
lock_goes ttl lease span me quorums w o l (CallComes tries) stands met =
    other_call_goes ttl lease span me quorums w o l (Wants (phase_of l.client) tries) stands tt (λ request has. wants_had l.calls (phase_of l.client) tries request has)
lock_goes ttl lease span me quorums w o l (CallGoes tries) stands met =
    other_call_goes ttl lease span me quorums w o l (Unwants tries) stands tt (λ request has. unwants_had l.calls tries request has)
lock_goes ttl lease span me quorums w o l RefusesTry stands met =
    other_call_goes ttl lease span me quorums w o l (RefusesTries (phase_of l.client)) stands tt (λ request has. refuses_had l.calls (phase_of l.client) request has)
lock_goes ttl lease span me quorums w o l (HandsLock leases now) stands met = hand_goes ttl lease span me quorums w o l leases now stands met
lock_goes ttl lease span me quorums w o l (TellsCall leases) stands met =
    tell_goes ttl lease span me quorums w o l leases (has_lock l.calls) (until l leases lease) stands met refl
lock_goes ttl lease span me quorums w o l (CallUnlocks request) stands met =
    other_call_goes ttl lease span me quorums w o l (Unlocks request) stands tt (λ other has. unlocks_had l.calls request other has)
lock_goes ttl lease span me quorums w o l LosesLock stands met =
    other_call_goes ttl lease span me quorums w o l MayBeLost stands tt (λ request has. loses_had l.calls request has)
lock_goes ttl lease span me quorums w o l FailsCalls stands met = other_call_goes ttl lease span me quorums w o l Empties stands tt (λ request has. has)
lock_goes ttl lease span me quorums w o l ClosesLock stands met = other_call_goes ttl lease span me quorums w o l Closes stands tt (λ request has. has)
