-- Sessions whose locks do these steps, in the worlds of `vote_leases`: what each step is for `callers`, and what it asks of its host and of
-- voters.
use Rattle.std.specs.Prelude.{ℕ, ◌≡◌, ◌≤◌, ◌<◌, ◌==◌, Bool, true, false, ◌&&◌, List, [], ◌∷◌, ◌++◌, length, Option, Some, None, Result, Ok, Err}
use Rattle.std.specs.List.{slice_get}
use Rattle.numbers.specs.Bounds.{max_clients, max_limit, max_voters}
use Rattle.numbers.specs.Sets.{IsSet}
use Rattle.message.specs.declared.message.ClientBody.{ClientBody}
use Rattle.message.specs.declared.message.ClientBody.TheVariants as to_client
use Rattle.message.specs.declared.message.ToClient.{ToClient}
use Rattle.message.specs.declared.message.ToVoter.{ToVoter}
use Rattle.message.specs.declared.message.VoterBody.{VoterBody}
use Rattle.message.specs.declared.message.VoterBody.TheVariants as to_voter
use Rattle.requester.specs.declared.fault.ClientFault.{ClientFault}
use Rattle.requester.specs.Words.{is_inside}
use Rattle.working.specs.Events.{Ends, Event, GivesBack, IsOneOf, Takes, World}
use Rattle.working.specs.Voters.{Locked as Message, grant_of, set}
use Rattle.vote_leases.specs.Leases.{is_taken}
use Rattle.vote_leases.specs.Sessions.{Asks, Happens, Holds, Kept, Learns, Step}
use Rattle.vote_leases.specs.declared.incarnation.Incarnation.{Incarnation}
use Rattle.vote_leases.specs.declared.lease.VoterLease.{VoterLease}
use Rattle.vote_leases.specs.declared.vote.Locked.{Locked}
use Rattle.vote_leases.specs.declared.vote.Vote.{Vote}
use Rattle.callers.specs.Calls.{closed, emptied, lost, tries_refused, unlocked, unwanted, wanted}
use Rattle.callers.specs.Steps.{Closes, Empties, Hands, MayBeLost, RefusesTries, Unlocks, Unwants, Wants}
use Rattle.callers.specs.Worlds.{Caller, CallerStep, IfOwn, InWorld, TellsUntil, ToCalls, caller_after, world_then}
use Rattle.client_node.specs.Locks.{Lock, LockOutcome, ask_lock, begun_lock, counts, give_up_lock, hand_lock, keep_lock, leave_lock, locked_of, phase_of, raise_lock, take_lock, tells, until, with_calls}
use Rattle.client_node.specs.declared.fault.LockFault.{LockFault}

-- ---- the steps of a lock

pub data LockStep : Type 0 where
  -- the client asks this quorum, if it may
  AsksQuorum : List ℕ → LockStep
  -- A message of a voter comes, with this header, at this time, where the host passes these leases. If it is a LOCKED, this is its place
  -- among all that left the voter.
  TakesMessage : ToClient → Incarnation → List VoterLease → ℕ → ℕ → LockStep
  -- the client leaves, if it may
  LeavesLock : LockStep
  -- it gives its request up, if it may
  GivesUpLock : LockStep
  -- its clock is raised to this stamp
  RaisesClock : ℕ → LockStep
  -- the vote of this voter keeps what counts for it, by these leases
  KeepsVote : List VoterLease → ℕ → LockStep
  -- a call comes, or does not wait any more: whether it only tries
  CallComes : Bool → LockStep
  CallGoes : Bool → LockStep
  -- somebody else has the lock
  RefusesTry : LockStep
  -- the lock is handed to a call, if all votes count by these leases at this time
  HandsLock : List VoterLease → ℕ → LockStep
  -- the call that has the lock is told up to when it has it, by these leases
  TellsCall : List VoterLease → LockStep
  -- a call gives the lock back that had it under this request
  CallUnlocks : ℕ → LockStep
  -- the lock may be lost
  LosesLock : LockStep
  -- all calls that wait fail
  FailsCalls : LockStep
  -- the session closes
  ClosesLock : LockStep

-- the lock after a step that may be refused
abbrev pub lock_or : {F : Type 0} → Lock → Result LockOutcome F → Lock
lock_or l (Ok o) = o.lock
lock_or l (Err fault) = l

-- the lock after a step, where a heartbeat counts for `lease`
abbrev pub lock_stepped : ℕ → Lock → LockStep → Lock
lock_stepped lease l (AsksQuorum quorum) = lock_or l (ask_lock l quorum)
lock_stepped lease l (TakesMessage m incarnation leases now place) = (take_lock l incarnation leases lease now m).lock
lock_stepped lease l LeavesLock = lock_or l (leave_lock l)
lock_stepped lease l GivesUpLock = lock_or l (give_up_lock l)
lock_stepped lease l (RaisesClock clock) = raise_lock l clock
lock_stepped lease l (KeepsVote leases voter) = keep_lock l leases voter
lock_stepped lease l (CallComes tries) = with_calls l (wanted l.calls (phase_of l.client) tries)
lock_stepped lease l (CallGoes tries) = with_calls l (unwanted l.calls tries)
lock_stepped lease l RefusesTry = with_calls l (tries_refused l.calls (phase_of l.client))
lock_stepped lease l (HandsLock leases now) = hand_lock l leases lease now
lock_stepped lease l (TellsCall leases) = l
lock_stepped lease l (CallUnlocks request) = with_calls l (unlocked l.calls request)
lock_stepped lease l LosesLock = with_calls l (lost l.calls)
lock_stepped lease l FailsCalls = with_calls l (emptied l.calls)
lock_stepped lease l ClosesLock = with_calls l (closed l.calls)

-- ---- what they are for `callers`

-- what leaves has no header of a voter
abbrev pub no_header : Incarnation
no_header = record { run = 0; start = 0; lapses = 0 }

-- a session ends a request, or gives a vote back
abbrev pub end_step : ℕ → ℕ → CallerStep
end_step me request = InWorld (Happens (Ends me request) no_header)

abbrev pub back_step : ℕ → ℕ → ℕ → CallerStep
back_step me voter number = InWorld (Happens (GivesBack me voter number) no_header)

-- what a message that leaves is
abbrev pub body_steps : ℕ → ℕ → VoterBody → List CallerStep
body_steps me voter (to_voter.Request stamp) = []
body_steps me voter (to_voter.Relinquish number) = back_step me voter number ∷ []
body_steps me voter (to_voter.Release stamp) = end_step me stamp ∷ []

abbrev pub said_steps : ℕ → List ToVoter → List CallerStep
said_steps me [] = []
said_steps me (m ∷ ms) = body_steps me m.voter m.body ++ said_steps me ms

-- a LOCKED that its vote takes
abbrev pub taken_if : Bool → ℕ → ℕ → ℕ → Incarnation → List CallerStep
taken_if true me voter place incarnation = InWorld (Happens (Takes me voter place) incarnation) ∷ []
taken_if false me voter place incarnation = []

abbrev pub is_taken_at : ℕ → ℕ → Locked → Option Vote → Option VoterLease → Bool
is_taken_at span now locked None l = false
is_taken_at span now locked (Some v) None = false
is_taken_at span now locked (Some v) (Some l) = is_taken v l locked span now

-- what a message that comes brings
abbrev pub brought_steps : ℕ → Bool → Incarnation → List VoterLease → ℕ → ℕ → List Vote → ℕ → ClientBody → ℕ → List CallerStep
brought_steps me renews incarnation leases span now votes voter (to_client.Locked stamp number) place =
    taken_if (is_taken_at span now (locked_of renews incarnation stamp number) (slice_get votes voter) (slice_get leases voter)) me voter place incarnation
brought_steps me renews incarnation leases span now votes voter (to_client.Fail stamp) place = []
brought_steps me renews incarnation leases span now votes voter (to_client.Inquire number) place = []

abbrev pub asked_steps : ℕ → Result LockOutcome ClientFault → List CallerStep
asked_steps me (Err fault) = []
asked_steps me (Ok o) = InWorld (Asks me o.lock.client.stamp) ∷ []

abbrev pub ended_steps : ℕ → ℕ → Result LockOutcome LockFault → List CallerStep
ended_steps me request (Err fault) = []
ended_steps me request (Ok o) = end_step me request ∷ []

abbrev pub kept_steps : ℕ → ℕ → Option Vote → Option VoterLease → List CallerStep
kept_steps me voter None l = []
kept_steps me voter (Some v) None = []
kept_steps me voter (Some v) (Some l) = InWorld (Holds me voter) ∷ []

abbrev pub told_steps : ℕ → Option ℕ → List CallerStep
told_steps me None = []
told_steps me (Some time) = TellsUntil me time ∷ []

-- a time, or 0 if there is none
abbrev pub time_of : Option ℕ → ℕ
time_of None = 0
time_of (Some time) = time

-- what a step of the lock of the session is
abbrev pub lock_steps : ℕ → ℕ → Lock → LockStep → List CallerStep
lock_steps lease me l (AsksQuorum quorum) = asked_steps me (ask_lock l quorum)
lock_steps lease me l (TakesMessage m incarnation leases now place) =
    brought_steps me (is_inside l.client.phase) incarnation leases lease now l.votes m.voter m.body place
    ++ said_steps me (take_lock l incarnation leases lease now m).out
lock_steps lease me l LeavesLock = ended_steps me l.client.stamp (leave_lock l)
lock_steps lease me l GivesUpLock = ended_steps me l.client.stamp (give_up_lock l)
lock_steps lease me l (RaisesClock clock) = []
lock_steps lease me l (KeepsVote leases voter) = kept_steps me voter (slice_get l.votes voter) (slice_get leases voter)
lock_steps lease me l (CallComes tries) = ToCalls me (Wants (phase_of l.client) tries) 0 ∷ []
lock_steps lease me l (CallGoes tries) = ToCalls me (Unwants tries) 0 ∷ []
lock_steps lease me l RefusesTry = ToCalls me (RefusesTries (phase_of l.client)) 0 ∷ []
lock_steps lease me l (HandsLock leases now) =
    ToCalls me (Hands (phase_of l.client) (counts l leases lease now)) (time_of (until l leases lease)) ∷ []
lock_steps lease me l (TellsCall leases) = told_steps me (tells l leases lease)
lock_steps lease me l (CallUnlocks request) = ToCalls me (Unlocks request) 0 ∷ []
lock_steps lease me l LosesLock = ToCalls me MayBeLost 0 ∷ []
lock_steps lease me l FailsCalls = ToCalls me Empties 0 ∷ []
lock_steps lease me l ClosesLock = ToCalls me Closes 0 ∷ []

-- ---- all sessions

pub data NodeStep : Type 0 where
  -- a step of all sessions and voters that is none of a lock
  Elsewhere : Step → NodeStep
  -- a step of the lock of the session
  AtLock : ℕ → LockStep → NodeStep

-- what it is for `callers`
abbrev pub steps_in : ℕ → (ℕ → Lock) → NodeStep → List CallerStep
steps_in lease locks (Elsewhere s) = InWorld s ∷ []
steps_in lease locks (AtLock session s) = lock_steps lease session (locks session) s

-- the lock of each session after it
abbrev pub locks_then : ℕ → (ℕ → Lock) → NodeStep → ℕ → Lock
locks_then lease locks (Elsewhere s) = locks
locks_then lease locks (AtLock session s) = set locks session (lock_stepped lease (locks session) s)

-- all these steps, and the locks after them
abbrev pub all_steps : ℕ → (ℕ → Lock) → List NodeStep → List CallerStep
all_steps lease locks [] = []
all_steps lease locks (s ∷ steps) = steps_in lease locks s ++ all_steps lease (locks_then lease locks s) steps

abbrev pub locks_after : ℕ → (ℕ → Lock) → List NodeStep → ℕ → Lock
locks_after lease locks [] = locks
locks_after lease locks (s ∷ steps) = locks_after lease (locks_then lease locks s) steps

-- each session begins, by its number, its limit, and the greatest stamp that it used before
abbrev pub begun_locks : (ℕ → ℕ) → (ℕ → ℕ) → (ℕ → ℕ) → ℕ → Lock
begun_locks ids limits used session = begun_lock (ids session) (limits session) (used session)

-- the world after these steps, in order
abbrev pub world_after_all : ℕ → ℕ → World → List CallerStep → World
world_after_all ttl span w [] = w
world_after_all ttl span w (s ∷ steps) = world_after_all ttl span (world_then ttl span w s) steps

-- ---- what is asked of the host, and of voters

-- each of these leases is the one that the session keeps of the voter
abbrev pub AreOwn : List VoterLease → Kept → Type 0
AreOwn leases k = (voter : ℕ) (l : VoterLease) → slice_get leases voter ≡ Some l → l ≡ k.leases voter

-- the request of this stamp runs at a vote
abbrev pub runs_at : ℕ → Option Vote → Bool
runs_at request None = false
runs_at request (Some v) = v.is_open && v.request == request

-- A LOCKED that comes is at this place of all that left the voter, and is for the session. If it renews the vote of the request that runs,
-- the client is inside: a voter says such a one only to a request that said so.
abbrev pub WasSaid : ℕ → World → Lock → ℕ → ClientBody → ℕ → Type 0
WasSaid me w l voter (to_client.Locked stamp number) place =
    (m : Message) × (slice_get (w.voters voter).told place ≡ Some m) × (m.grant ≡ grant_of me stamp number)
    × (m.renews ≡ true → runs_at stamp (slice_get l.votes voter) ≡ true → is_inside l.client.phase ≡ true)
WasSaid me w l voter (to_client.Fail stamp) place = Unit {0}
WasSaid me w l voter (to_client.Inquire number) place = Unit {0}

-- The host asks a quorum, passes messages of voters to their client with the session's leases and the time of its clock, and passes the
-- session's leases elsewhere.
abbrev pub IsMet : ℕ → List (List ℕ) → World → Kept → Lock → LockStep → Type 0
IsMet me quorums w k l (AsksQuorum quorum) = IsOneOf quorum quorums × IsSet quorum × (1 ≤ length quorum)
IsMet me quorums w k l (TakesMessage m incarnation leases now place) =
    (m.client ≡ l.client.id) × (m.voter < max_voters) × AreOwn leases k × (now ≡ (w.sessions me).time)
    × WasSaid me w l m.voter m.body place
IsMet me quorums w k l (KeepsVote leases voter) = AreOwn leases k
IsMet me quorums w k l (HandsLock leases now) = AreOwn leases k
IsMet me quorums w k l (TellsCall leases) = AreOwn leases k
IsMet me quorums w k l LeavesLock = Unit {0}
IsMet me quorums w k l GivesUpLock = Unit {0}
IsMet me quorums w k l (RaisesClock clock) = Unit {0}
IsMet me quorums w k l (CallComes tries) = Unit {0}
IsMet me quorums w k l (CallGoes tries) = Unit {0}
IsMet me quorums w k l RefusesTry = Unit {0}
IsMet me quorums w k l (CallUnlocks request) = Unit {0}
IsMet me quorums w k l LosesLock = Unit {0}
IsMet me quorums w k l FailsCalls = Unit {0}
IsMet me quorums w k l ClosesLock = Unit {0}

-- An event that is none of a lock of the session: it takes a LOCKED, ends a request, and gives a vote back only by its lock.
abbrev pub IsNoEventOf : ℕ → Event → Type 0
IsNoEventOf me (Takes session voter place) = (session == me) ≡ false
IsNoEventOf me (Ends session request) = (session == me) ≡ false
IsNoEventOf me (GivesBack session voter number) = (session == me) ≡ false
IsNoEventOf me e = Unit {0}

-- so it asks, and keeps what counts for a vote
abbrev pub IsNoStepOf : ℕ → Step → Type 0
IsNoStepOf me (Happens e i) = IsNoEventOf me e
IsNoStepOf me (Asks session request) = (session == me) ≡ false
IsNoStepOf me (Learns session voter i) = Unit {0}
IsNoStepOf me (Holds session voter) = (session == me) ≡ false

abbrev pub IsMetIn : ℕ → List (List ℕ) → World → Kept → (ℕ → Lock) → NodeStep → Type 0
IsMetIn me quorums w k locks (Elsewhere s) = IsNoStepOf me s
IsMetIn me quorums w k locks (AtLock session s) = IfOwn (session == me) (IsMet me quorums w k (locks me) s)

-- All that is asked of the host of the session, and of voters, step by step.
abbrev pub AllMet : ℕ → ℕ → ℕ → ℕ → List (List ℕ) → World → Caller → (ℕ → Lock) → List NodeStep → Type 0
AllMet ttl lease span me quorums w o locks [] = Unit {0}
AllMet ttl lease span me quorums w o locks (s ∷ steps) =
    IsMetIn me quorums w o.kept locks s
    × AllMet ttl lease span me quorums (world_after_all ttl span w (steps_in lease locks s)) (caller_after ttl lease span me w o (steps_in lease locks s))
    (locks_then lease locks s) steps

-- A client of this number may begin with these stamps: up to its limit, and above the greatest one that was used before.
abbrev pub MayBegin : ℕ → ℕ → ℕ → Type 0
MayBegin id limit used = (id < max_clients) × (1 ≤ limit) × (limit ≤ max_limit) × (used ≤ limit)
