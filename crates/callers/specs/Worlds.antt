-- A session of `vote_leases` with its calls for the lock: a call has the lock only while what the session keeps says that votes count.
use Rattle.std.specs.Prelude.{ℕ, ◌≡◌, ◌≤◌, ◌<◌, ◌+◌, ◌==◌, max, Bool, true, false, List, [], ◌∷◌, Some, if◌then◌else◌}
use Rattle.std.specs.List.{AllByRecursion}
use Rattle.working.specs.Events.{Ends, Event, GivesBack, IsOneOf, World}
use Rattle.vote_leases.specs.Leases.{until}
use Rattle.vote_leases.specs.Sessions.{Asks, Happens, Holds, Kept, Learns, Step, begun as begun_kept, stepped, world_after}
use Rattle.callers.specs.Calls.{begun, has_lock, may_end, may_hand}
use Rattle.callers.specs.Steps.{CallStep, Closes, Empties, Hands, HasLock, MayBeLost, RefusesTries, Unlocks, Unwants, Wants, call_stepped}
use Rattle.callers.specs.declared.calls.Calls.{Calls}
use Rattle.callers.specs.declared.calls.Phase.TheVariants.{Idle, Asking, Inside}

-- what a session keeps of its votes, its calls, and up to when the call that has the lock was told that it has it, by the session's clock
pub record Caller : Type 0 where
  pub kept : Kept
  pub calls : Calls
  pub until : ℕ

-- it begins, and used no stamp above this one
abbrev pub begun_caller : ℕ → Caller
begun_caller used = record { kept = begun_kept used; calls = begun used; until = 0 }

-- ---- what may happen

pub data CallerStep : Type 0 where
  -- a step of all sessions and voters
  InWorld : Step → CallerStep
  -- Something comes to the calls of a session. If the lock is handed to one of them, that is told up to when it has the lock: session, step, time
  ToCalls : ℕ → CallStep → ℕ → CallerStep
  -- the call of a session that has the lock is told up to when it has it: session, time
  TellsUntil : ℕ → ℕ → CallerStep

-- the steps of all sessions and voters among these
abbrev pub steps_of : List CallerStep → List Step
steps_of [] = []
steps_of (InWorld s ∷ steps) = s ∷ steps_of steps
steps_of (ToCalls session s time ∷ steps) = steps_of steps
steps_of (TellsUntil session time ∷ steps) = steps_of steps

-- the world after a step
abbrev pub world_then : ℕ → ℕ → World → CallerStep → World
world_then ttl span w (InWorld s) = world_after ttl span w s
world_then ttl span w (ToCalls session s time) = w
world_then ttl span w (TellsUntil session time) = w

-- up to when the call that has the lock was told that it has it, after this came to the calls
abbrev pub until_then : Calls → CallStep → ℕ → ℕ → ℕ
until_then c (Hands phase counts) time before = if may_hand c phase counts then time else before
until_then c (Wants phase tries) time before = before
until_then c (Unwants tries) time before = before
until_then c (RefusesTries phase) time before = before
until_then c (Unlocks request) time before = before
until_then c MayBeLost time before = before
until_then c Empties time before = before
until_then c Closes time before = before

-- the session after a step, where a heartbeat counts for `lease`
abbrev pub caller_then : ℕ → ℕ → World → Caller → CallerStep → Caller
caller_then lease me w o (InWorld s) = record { kept = stepped lease me w o.kept s; calls = o.calls; until = o.until }
caller_then lease me w o (ToCalls session s time) =
    if session == me then record { kept = o.kept; calls = call_stepped o.calls s; until = until_then o.calls s time o.until } else o
caller_then lease me w o (TellsUntil session time) =
    if session == me then record { kept = o.kept; calls = o.calls; until = max o.until time } else o

-- the session after these steps, in order
abbrev pub caller_after : ℕ → ℕ → ℕ → ℕ → World → Caller → List CallerStep → Caller
caller_after ttl lease span me w o [] = o
caller_after ttl lease span me w o (s ∷ steps) =
    caller_after ttl lease span me (world_then ttl span w s) (caller_then lease me w o s) steps

-- ---- what a session may do

-- by what the session keeps, this voter's vote for the request counts up to this time, or longer
abbrev pub CountsTo : ℕ → Kept → ℕ → ℕ → ℕ → Type 0
CountsTo lease k request time voter =
    ((k.votes voter).is_open ≡ true) × ((k.votes voter).request ≡ request)
    × (end : ℕ) × (until (k.votes voter) (k.leases voter) lease ≡ Some end) × (time ≤ end)

-- the votes of one of these quorums do so
pub record HasVotesTo (lease : ℕ) (quorums : List (List ℕ)) (k : Kept) (request time : ℕ) : Type 0 where
  pub quorum : List ℕ
  pub is_quorum : IsOneOf quorum quorums
  pub counts : AllByRecursion (CountsTo lease k request time) quorum

-- so it is, if it is the session's own
abbrev pub IfOwn : Bool → Type 0 → Type 0
IfOwn false P = Unit {0}
IfOwn true P = P

-- While a call has the lock, its request does not end, and no vote is given back: `next` and `spoiled` end no such request.
abbrev pub EndsLater : ℕ → Calls → Event → Type 0
EndsLater me c (Ends session request) = IfOwn (session == me) (may_end c request ≡ true)
EndsLater me c (GivesBack session voter number) = IfOwn (session == me) (has_lock c ≡ false)
EndsLater me c e = Unit {0}

abbrev pub StepsLater : ℕ → Calls → Step → Type 0
StepsLater me c (Happens e i) = EndsLater me c e
StepsLater me c (Asks session request) = Unit {0}
StepsLater me c (Learns session voter i) = Unit {0}
StepsLater me c (Holds session voter) = Unit {0}

-- A call gets the lock only if votes count for its request up to the time that it is told.
abbrev pub IsHanded : ℕ → List (List ℕ) → Caller → CallStep → ℕ → Type 0
IsHanded lease quorums o (Hands (Inside request) counts) time =
    may_hand o.calls (Inside request) counts ≡ true → HasVotesTo lease quorums o.kept request time
IsHanded lease quorums o (Hands Idle counts) time = Unit {0}
IsHanded lease quorums o (Hands Asking counts) time = Unit {0}
IsHanded lease quorums o (Wants phase tries) time = Unit {0}
IsHanded lease quorums o (Unwants tries) time = Unit {0}
IsHanded lease quorums o (RefusesTries phase) time = Unit {0}
IsHanded lease quorums o (Unlocks request) time = Unit {0}
IsHanded lease quorums o MayBeLost time = Unit {0}
IsHanded lease quorums o Empties time = Unit {0}
IsHanded lease quorums o Closes time = Unit {0}

-- what a session does in a step is what its calls and its votes say
abbrev pub DoesAsTold : ℕ → ℕ → List (List ℕ) → Caller → CallerStep → Type 0
DoesAsTold lease me quorums o (InWorld s) = StepsLater me o.calls s
DoesAsTold lease me quorums o (ToCalls session s time) = IfOwn (session == me) (IsHanded lease quorums o s time)
DoesAsTold lease me quorums o (TellsUntil session time) =
    IfOwn (session == me) ((request : ℕ) → HasLock o.calls request → HasVotesTo lease quorums o.kept request time)

abbrev pub AllAsTold : ℕ → ℕ → ℕ → ℕ → List (List ℕ) → World → Caller → List CallerStep → Type 0
AllAsTold ttl lease span me quorums w o [] = Unit {0}
AllAsTold ttl lease span me quorums w o (s ∷ steps) =
    DoesAsTold lease me quorums o s × AllAsTold ttl lease span me quorums (world_then ttl span w s) (caller_then lease me w o s) steps

-- ---- when a call works

-- A call has the lock under this request, and the time up to which it was told that it has it is no longer than `stop` ago.
abbrev pub CallWorks : ℕ → ℕ → Caller → ℕ → Type 0
CallWorks stop now o request = HasLock o.calls request × (now < o.until + stop)
