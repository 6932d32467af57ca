-- all sessions
use Rattle.std.proofs.Common.{◌≡◌, ℕ, Bool, true, false, List, [], ◌∷◌, ◌++◌, refl, sym, subst, ◌∙◌, Option, Some, None, arith}
use Rattle.std.specs.Prelude.{◌==◌, if◌then◌else◌, replicate, Result, Ok, Err}
use Rattle.std.specs.List.{AllByRecursion, slice_get}
use Rattle.std.proofs.lemmas.Bool.{eqb-true, false≢true}
use Rattle.std.proofs.lemmas.List.{get_or-replicate, length-replicate}
use Rattle.std.proofs.lemmas.Option.{get_or_from_slice_get, slice_get_within}
use Rattle.message.specs.declared.message.ClientBody.{ClientBody}
use Rattle.message.specs.declared.message.ClientBody.TheVariants as to_client
use Rattle.message.specs.declared.message.ToVoter.{ToVoter}
use Rattle.message.specs.declared.message.VoterBody.{VoterBody}
use Rattle.message.specs.declared.message.VoterBody.TheVariants as to_voter
use Rattle.requester.specs.declared.fault.ClientFault.{ClientFault}
use Rattle.requester.specs.Words.{is_inside}
use Rattle.requester.proofs.SoundSteps.{IsSound-anew}
use Rattle.working.specs.Events.{Beats, CountsNow, Ends, Event, GivesBack, GivesOn, Gives, Hears, Keeps, LetsGo, LetsOtherGo, Loses, Marked, Marks, Passes, QuietCountsNow, Released, Relinquished, Renews, Restarts, Takes, Tells as TellsAgain, Wakes, World, begins}
use Rattle.working.specs.Voters.{Acknowledgement}
use Rattle.vote_leases.specs.Leases.{begun_vote}
use Rattle.vote_leases.specs.Sessions.{Asks, Happens, Holds, Kept, Learns, Step, acknowledged_to, kept_after, locked_to, stepped, with_lease, with_vote}
use Rattle.vote_leases.specs.Leases.{ended, given_back, heard, renewed}
use Rattle.vote_leases.specs.declared.incarnation.Incarnation.{Incarnation}
use Rattle.vote_leases.specs.declared.lease.VoterLease.{VoterLease}
use Rattle.vote_leases.specs.declared.vote.Vote.{Vote}
use Rattle.callers.specs.Worlds.{Caller, CallerStep, EndsLater, IfOwn, InWorld, IsHanded, HasVotesTo, StepsLater, TellsUntil, ToCalls, begun_caller, caller_after, caller_then, world_then}
use Rattle.callers.specs.Steps.{HasLock}
use Rattle.callers.specs.declared.calls.Calls.{Calls}
use Rattle.client_node.specs.Locks.{Lock, LockOutcome, ask_lock, begun_lock, give_up_lock, leave_lock, locked_of, take_lock, tells}
use Rattle.client_node.specs.Worlds.{AllMet, AsksQuorum, AtLock, CallComes, CallGoes, CallUnlocks, ClosesLock, Elsewhere, FailsCalls, GivesUpLock, HandsLock, IsMet, IsNoEventOf, IsNoStepOf, KeepsVote, LeavesLock, LockStep, LosesLock, MayBegin, NodeStep, RaisesClock, RefusesTry, TakesMessage, TellsCall, all_steps, asked_steps, begun_locks, body_steps, brought_steps, ended_steps, is_taken_at, kept_steps, lock_stepped, lock_steps, locks_after, locks_then, said_steps, taken_if, told_steps, world_after_all}
use Rattle.client_node.specs.declared.fault.LockFault.{LockFault}
use Rattle.client_node.proofs.Stands.{AreVotes, Stands, not_own}
use Rattle.client_node.proofs.Told.{Goes, goes_on, lock_goes}

-- ---- a step of others changes no vote of the session

same_votes : (b : Bool) (a k : Kept) → a.votes ≡ k.votes → (if b then a else k).votes ≡ k.votes
same_votes true a k same = same
same_votes false a k same = refl

not_mine : (b : Bool) (a k : Kept) → b ≡ false → (if b then a else k).votes ≡ k.votes
not_mine false a k is = refl
not_mine true a k is = absurd (false≢true (sym is))

acknowledged_votes : (me voter : ℕ) (k : Kept) (i : Incarnation) (a : Option Acknowledgement) → (acknowledged_to me k voter i a).votes ≡ k.votes
acknowledged_votes me voter k i None = refl
acknowledged_votes me voter k i (Some a) = same_votes (a.session == me) (with_lease k voter (renewed (k.leases voter) i a.beat)) k refl

event_votes : (lease me : ℕ) (w : World) (k : Kept) (e : Event) (i : Incarnation) → IsNoEventOf me e → (kept_after lease me w k e i).votes ≡ k.votes
event_votes lease me w k (Passes voters sessions) i no_event = refl
event_votes lease me w k (Beats session) i no_event = refl
event_votes lease me w k (Hears session voter time) i no_event = refl
event_votes lease me w k (Renews session voter place) i no_event =
    same_votes (session == me) (acknowledged_to me k voter i (slice_get (w.voters voter).acknowledged place)) k
    (acknowledged_votes me voter k i (slice_get (w.voters voter).acknowledged place))
event_votes lease me w k (Marks voter) i no_event = refl
event_votes lease me w k (Marked voter number) i no_event = refl
event_votes lease me w k (CountsNow session voter) i no_event = refl
event_votes lease me w k (QuietCountsNow voter) i no_event = refl
event_votes lease me w k (Gives session voter request number) i no_event = refl
event_votes lease me w k (TellsAgain voter) i no_event = refl
event_votes lease me w k (Takes session voter place) i no_event =
    not_mine (session == me) (locked_to lease (w.sessions me).time me k voter i (slice_get (w.voters voter).told place)) k no_event
event_votes lease me w k (Ends session request) i no_event =
    not_mine (session == me) (record { leases = k.leases; votes = λ voter. ended (k.votes voter) request }) k no_event
event_votes lease me w k (Released session voter request) i no_event = refl
event_votes lease me w k (GivesBack session voter number) i no_event =
    not_mine (session == me) (with_vote k voter (given_back (k.votes voter) number)) k no_event
event_votes lease me w k (Relinquished session voter number) i no_event = refl
event_votes lease me w k (LetsGo voter) i no_event = refl
event_votes lease me w k (LetsOtherGo session voter) i no_event = refl
event_votes lease me w k (GivesOn session voter) i no_event = refl
event_votes lease me w k (Restarts voter) i no_event = refl
event_votes lease me w k (Loses voter) i no_event = refl
event_votes lease me w k (Keeps session voter request number) i no_event = refl
event_votes lease me w k (Wakes voter) i no_event = refl

step_votes : (lease me : ℕ) (w : World) (k : Kept) (s : Step) → IsNoStepOf me s → (stepped lease me w k s).votes ≡ k.votes
step_votes lease me w k (Happens e i) no_step = event_votes lease me w k e i no_step
step_votes lease me w k (Asks session request) no_step = not_mine (session == me) _ k no_step
step_votes lease me w k (Learns session voter i) no_step = same_votes (session == me) (with_lease k voter (heard (k.leases voter) i)) k refl
step_votes lease me w k (Holds session voter) no_step = not_mine (session == me) _ k no_step

event_later : (me : ℕ) (c : Calls) (e : Event) → IsNoEventOf me e → EndsLater me c e
event_later me c (Passes voters sessions) no_event = tt
event_later me c (Beats session) no_event = tt
event_later me c (Hears session voter time) no_event = tt
event_later me c (Renews session voter place) no_event = tt
event_later me c (Marks voter) no_event = tt
event_later me c (Marked voter number) no_event = tt
event_later me c (CountsNow session voter) no_event = tt
event_later me c (QuietCountsNow voter) no_event = tt
event_later me c (Gives session voter request number) no_event = tt
event_later me c (TellsAgain voter) no_event = tt
event_later me c (Takes session voter place) no_event = tt
event_later me c (Ends session request) no_event = not_own (session == me) _ no_event
event_later me c (Released session voter request) no_event = tt
event_later me c (GivesBack session voter number) no_event = not_own (session == me) _ no_event
event_later me c (Relinquished session voter number) no_event = tt
event_later me c (LetsGo voter) no_event = tt
event_later me c (LetsOtherGo session voter) no_event = tt
event_later me c (GivesOn session voter) no_event = tt
event_later me c (Restarts voter) no_event = tt
event_later me c (Loses voter) no_event = tt
event_later me c (Keeps session voter request number) no_event = tt
event_later me c (Wakes voter) no_event = tt

step_later : (me : ℕ) (c : Calls) (s : Step) → IsNoStepOf me s → StepsLater me c s
step_later me c (Happens e i) no_step = event_later me c e no_step
step_later me c (Asks session request) no_step = tt
step_later me c (Learns session voter i) no_step = tt
step_later me c (Holds session voter) no_step = tt

-- it is none of the session
abbrev IsOther : ℕ → CallerStep → Type 0
IsOther me (InWorld s) = IsNoStepOf me s
IsOther me (ToCalls session s time) = (session == me) ≡ false
IsOther me (TellsUntil session time) = (session == me) ≡ false

not_mine_caller : (b : Bool) (a o : Caller) → b ≡ false → (if b then a else o) ≡ o
not_mine_caller false a o is = refl
not_mine_caller true a o is = absurd (false≢true (sym is))

others_go : (ttl lease span me : ℕ) (quorums : List (List ℕ)) (w : World) (o : Caller) (l : Lock) (steps : List CallerStep) → Stands quorums o l → AllByRecursion (IsOther me) steps
    → Goes ttl lease span me quorums w o l steps
others_go ttl lease span me quorums w o l [] stands other = record { told = tt; stands = stands }
others_go ttl lease span me quorums w o l (InWorld s ∷ steps) stands other =
    let rest = others_go ttl lease span me quorums (world_then ttl span w (InWorld s)) (caller_then lease me w o (InWorld s)) l steps
    (record {
      calls = stands.calls;
      votes = subst (λ (kept : ℕ → Vote). AreVotes l.votes kept) (sym (step_votes lease me w o.kept s other.0)) stands.votes;
      client = stands.client;
      had = stands.had;
      quorum = stands.quorum;
    }) other.1 in
    record { told = (step_later me o.calls s other.0, rest.told); stands = rest.stands }
others_go ttl lease span me quorums w o l (ToCalls session s time ∷ steps) stands other =
    let rest = others_go ttl lease span me quorums w (caller_then lease me w o (ToCalls session s time)) l steps
    (subst (λ (x : Caller). Stands quorums x l) (sym (not_mine_caller (session == me) _ o other.0)) stands) other.1 in
    record { told = (not_own (session == me) (IsHanded lease quorums o s time) other.0, rest.told); stands = rest.stands }
others_go ttl lease span me quorums w o l (TellsUntil session time ∷ steps) stands other =
    let rest = others_go ttl lease span me quorums w (caller_then lease me w o (TellsUntil session time)) l steps
    (subst (λ (x : Caller). Stands quorums x l) (sym (not_mine_caller (session == me) _ o other.0)) stands) other.1 in
    record { told = (not_own (session == me) ((request : ℕ) → HasLock o.calls request → HasVotesTo lease quorums o.kept request time) other.0, rest.told); stands = rest.stands }

-- ---- what a lock of another session does is of no matter here

after_others : (me : ℕ) (a b : List CallerStep) → AllByRecursion (IsOther me) a → AllByRecursion (IsOther me) b → AllByRecursion (IsOther me) (a ++ b)
after_others me [] b first second = second
after_others me (s ∷ a) b first second = (first.0, after_others me a b first.1 second)

module _ (me session : ℕ) (other : (session == me) ≡ false) where
  others_body : (voter : ℕ) (body : VoterBody) → AllByRecursion (IsOther me) (body_steps session voter body)
  others_body voter (to_voter.Request stamp) = tt
  others_body voter (to_voter.Relinquish number) = (other, tt)
  others_body voter (to_voter.Release stamp) = (other, tt)

  others_said : (out : List ToVoter) → AllByRecursion (IsOther me) (said_steps session out)
  others_said [] = tt
  others_said (n ∷ out) = after_others me (body_steps session n.voter n.body) (said_steps session out) (others_body n.voter n.body) (others_said out)

  others_taken : (is : Bool) (voter place : ℕ) (i : Incarnation) → AllByRecursion (IsOther me) (taken_if is session voter place i)
  others_taken true voter place i = (other, tt)
  others_taken false voter place i = tt

  others_brought : (renews : Bool) (i : Incarnation) (leases : List VoterLease) (lease now : ℕ) (votes : List Vote) (voter : ℕ) (body : ClientBody) (place : ℕ)
      → AllByRecursion (IsOther me) (brought_steps session renews i leases lease now votes voter body place)
  others_brought renews i leases lease now votes voter (to_client.Locked stamp number) place =
      others_taken (is_taken_at lease now (locked_of renews i stamp number) (slice_get votes voter) (slice_get leases voter)) voter place i
  others_brought renews i leases lease now votes voter (to_client.Fail stamp) place = tt
  others_brought renews i leases lease now votes voter (to_client.Inquire number) place = tt

  others_asked : (r : Result LockOutcome ClientFault) → AllByRecursion (IsOther me) (asked_steps session r)
  others_asked (Ok o) = (other, tt)
  others_asked (Err fault) = tt

  others_ended : (request : ℕ) (r : Result LockOutcome LockFault) → AllByRecursion (IsOther me) (ended_steps session request r)
  others_ended request (Ok o) = (other, tt)
  others_ended request (Err fault) = tt

  others_kept : (voter : ℕ) (one : Option Vote) (two : Option VoterLease) → AllByRecursion (IsOther me) (kept_steps session voter one two)
  others_kept voter None two = tt
  others_kept voter (Some v) None = tt
  others_kept voter (Some v) (Some n) = (other, tt)

  others_told : (end : Option ℕ) → AllByRecursion (IsOther me) (told_steps session end)
  others_told None = tt
  others_told (Some time) = (other, tt)

  others_lock : (lease : ℕ) (l : Lock) (s : LockStep) → AllByRecursion (IsOther me) (lock_steps lease session l s)
  others_lock lease l (AsksQuorum quorum) = others_asked (ask_lock l quorum)
  others_lock lease l (TakesMessage m i leases now place) =
      after_others me (brought_steps session (is_inside l.client.phase) i leases lease now l.votes m.voter m.body place) (said_steps session (take_lock l i leases lease now m).out)
      (others_brought (is_inside l.client.phase) i leases lease now l.votes m.voter m.body place) (others_said (take_lock l i leases lease now m).out)
  others_lock lease l LeavesLock = others_ended l.client.stamp (leave_lock l)
  others_lock lease l GivesUpLock = others_ended l.client.stamp (give_up_lock l)
  others_lock lease l (RaisesClock clock) = tt
  others_lock lease l (KeepsVote leases voter) = others_kept voter (slice_get l.votes voter) (slice_get leases voter)
  others_lock lease l (CallComes tries) = (other, tt)
  others_lock lease l (CallGoes tries) = (other, tt)
  others_lock lease l RefusesTry = (other, tt)
  others_lock lease l (HandsLock leases now) = (other, tt)
  others_lock lease l (TellsCall leases) = others_told (tells l leases lease)
  others_lock lease l (CallUnlocks request) = (other, tt)
  others_lock lease l LosesLock = (other, tt)
  others_lock lease l FailsCalls = (other, tt)
  others_lock lease l ClosesLock = (other, tt)

-- ---- all steps

-- a step of one lock, by whether it is that of the session
one_goes : (ttl lease span me session : ℕ) (quorums : List (List ℕ)) (w : World) (o : Caller) (locks : ℕ → Lock) (s : LockStep) (own : Bool) → (session == me) ≡ own
    → IfOwn own (IsMet me quorums w o.kept (locks me) s) → Stands quorums o (locks me)
    → Goes ttl lease span me quorums w o (if own then lock_stepped lease (locks session) s else locks me) (lock_steps lease session (locks session) s)
one_goes ttl lease span me session quorums w o locks s false is met stands =
    others_go ttl lease span me quorums w o (locks me) (lock_steps lease session (locks session) s) stands (others_lock me session is lease (locks session) s)
one_goes ttl lease span me session quorums w o locks s true is met stands =
    subst (λ (x : ℕ). Goes ttl lease span me quorums w o (lock_stepped lease (locks x) s) (lock_steps lease x (locks x) s)) (sym (eqb-true session me is))
    (lock_goes ttl lease span me quorums w o (locks me) s stands met)

pub all_go : (ttl lease span me : ℕ) (quorums : List (List ℕ)) (w : World) (o : Caller) (locks : ℕ → Lock) (steps : List NodeStep) → AllMet ttl lease span me quorums w o locks steps
    → Stands quorums o (locks me) → Goes ttl lease span me quorums w o (locks_after lease locks steps me) (all_steps lease locks steps)
all_go ttl lease span me quorums w o locks [] met stands = record { told = tt; stands = stands }
all_go ttl lease span me quorums w o locks (Elsewhere s ∷ steps) met stands =
    let one = others_go ttl lease span me quorums w o (locks me) (InWorld s ∷ []) stands (met.0, tt) in
    goes_on ttl lease span me quorums w o _ (InWorld s ∷ []) (all_steps lease locks steps) one.told
    (all_go ttl lease span me quorums (world_after_all ttl span w (InWorld s ∷ [])) (caller_after ttl lease span me w o (InWorld s ∷ [])) locks steps met.1 one.stands)
all_go ttl lease span me quorums w o locks (AtLock session s ∷ steps) met stands =
    let is = lock_steps lease session (locks session) s in
    let next = locks_then lease locks (AtLock session s) in
    let one = one_goes ttl lease span me session quorums w o locks s (session == me) refl met.0 stands in
    goes_on ttl lease span me quorums w o _ is (all_steps lease next steps) one.told
    (all_go ttl lease span me quorums (world_after_all ttl span w is) (caller_after ttl lease span me w o is) next steps met.1 one.stands)

replicated : (n : ℕ) (x v : Vote) (i : ℕ) → slice_get (replicate n x) i ≡ Some v → v ≡ x
replicated n x v i is =
    let within = slice_get_within (replicate n x) i v is in
    let long = length-replicate n x in
    sym (get_or_from_slice_get (replicate n x) i v x is) ∙ get_or-replicate n i x x (omega arith)

begun_stands : (quorums : List (List ℕ)) (id limit used : ℕ) → MayBegin id limit used → Stands quorums (begun_caller used) (begun_lock id limit used)
begun_stands quorums id limit used may = record {
  calls = refl;
  votes = λ voter v is. replicated 64 (begun_vote used) v voter is;
  client = IsSound-anew id limit used may.0 may.1 may.2 may.3;
  had = refl;
  quorum = λ busy. absurd (false≢true (sym busy));
}

pub node_goes : (ttl lease span : ℕ) (periods voters sessions ids limits used : ℕ → ℕ) (quorums : List (List ℕ)) (me : ℕ) (steps : List NodeStep) → MayBegin (ids me) (limits me) (used me)
    → AllMet ttl lease span me quorums (begins periods voters sessions) (begun_caller (used me)) (begun_locks ids limits used) steps
    → Goes ttl lease span me quorums (begins periods voters sessions) (begun_caller (used me)) (locks_after lease (begun_locks ids limits used) steps me) (all_steps lease (begun_locks ids limits used) steps)
node_goes ttl lease span periods voters sessions ids limits used quorums me steps may met =
    all_go ttl lease span me quorums (begins periods voters sessions) (begun_caller (used me)) (begun_locks ids limits used) steps met (begun_stands quorums (ids me) (limits me) (used me) may)
