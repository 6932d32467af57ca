-- A session asks the one voter of a lock, gets its vote, and a call works: by the steps of the session's lock, and by the turns of the voter.
use Rattle.std.specs.Prelude.{ℕ, List, [], ◌∷◌, ◌++◌, false, Result, Ok, Err}
use Rattle.message.specs.declared.message.ClientBody.TheVariants as to_client
use Rattle.message.specs.declared.message.ToClient.{ToClient}
use Rattle.message.specs.declared.message.ToVoter.{ToVoter}
use Rattle.requester.specs.declared.fault.ClientFault.{ClientFault}
use Rattle.working.specs.Events.{Beats, Event, Gives, Hears, Keeps, Marked, Marks, Renews, Takes, Tells}
use Rattle.working.specs.Example.{pass}
use Rattle.vote_leases.specs.Example.{first}
use Rattle.client_node.specs.Example.{happen, lease}
use Rattle.client_node.specs.Locks.{LockOutcome}
use Rattle.client_node.specs.Worlds.{AsksQuorum, AtLock, CallComes, HandsLock, NodeStep, TakesMessage}
use Rattle.working_votes.specs.Example.{request}
use Rattle.working_votes.specs.Turns.{Happens, Meets, Turn}

-- the one quorum is that of voter 0 alone
abbrev pub alone : List (List ℕ)
alone = (0 ∷ []) ∷ []

-- ---- the turns of voters

-- before the REQUEST comes: the voter hears session 7. The sessions' clocks are slower than the voters' by a tenth.
abbrev pub is_heard : List Turn
is_heard =
    Happens (Marks 0) ∷ Happens (pass 10 9) ∷ Happens (Marked 0 1) ∷ Happens (Beats 7) ∷ Happens (pass 10 9) ∷ Happens (Hears 7 0 109) ∷ []

-- its automaton takes the REQUEST, and gives its vote: then the acknowledgement and the LOCKED reach the session
abbrev pub is_granted : List Turn
is_granted = is_heard ++ Meets 0 request false ∷ Happens (pass 10 9) ∷ Happens (Renews 7 0 0) ∷ Happens (Takes 7 0 0) ∷ []

-- ---- the steps of sessions

-- what leaves a session that asks
abbrev pub sent_by : Result LockOutcome ClientFault → List ToVoter
sent_by (Err fault) = []
sent_by (Ok o) = o.out

-- the LOCKED of voter 0 for the first request of session 7
abbrev pub locked : ToClient
locked = record { voter = 0; client = 7; seen = 1; body = to_client.Locked 1 1 }

-- all that happens before the LOCKED comes, and is no step of the session's lock
abbrev pub meanwhile : List Event
meanwhile =
    Marks 0 ∷ pass 10 9 ∷ Marked 0 1 ∷ Beats 7 ∷ pass 10 9 ∷ Hears 7 0 109 ∷ Gives 7 0 1 1 ∷ Keeps 7 0 1 1 ∷ Tells 0 ∷ pass 10 9 ∷ Renews 7 0 0
    ∷ []

-- a call of session 7 comes
abbrev pub comes : List NodeStep
comes = AtLock 7 (CallComes false) ∷ []

-- A call of session 7 comes, and its client asks. The vote is given, and the client takes the LOCKED. The lock is handed to the call: the
-- vote counts by the heartbeat that left at 109.
abbrev pub a_call : List NodeStep
a_call =
    comes ++ AtLock 7 (AsksQuorum (0 ∷ [])) ∷ happen meanwhile
    ++ AtLock 7 (TakesMessage locked first (lease ∷ []) 127 0) ∷ AtLock 7 (HandsLock (lease ∷ []) 127) ∷ []
