-- A call of session 7 has the lock, by the steps of its lock, in the worlds of `vote_leases`.
use Rattle.std.specs.Prelude.{ℕ, List, [], ◌∷◌, ◌++◌, Some, false, true}
use Rattle.message.specs.declared.message.ClientBody.TheVariants as to_client
use Rattle.message.specs.declared.message.ToClient.{ToClient}
use Rattle.working.specs.Events.{Beats, Event, Gives, Hears, Marked, Marks, Renews}
use Rattle.working.specs.Example.{is_let_go, pass}
use Rattle.vote_leases.specs.Example.{first}
use Rattle.vote_leases.specs.Sessions.{Happens}
use Rattle.vote_leases.specs.declared.lease.VoterLease.{VoterLease}
use Rattle.client_node.specs.Locks.{Lock}
use Rattle.vote_leases.specs.Leases.{begun_lease}
use Rattle.client_node.specs.Worlds.{AsksQuorum, AtLock, CallComes, CallUnlocks, Elsewhere, HandsLock, LeavesLock, NodeStep, TakesMessage, TellsCall, begun_locks}

-- each session is the client of its number
abbrev pub locks : ℕ → Lock
locks = begun_locks (λ session. session) (λ session. 1000) (λ session. 0)

-- these events happen
abbrev pub happen : List Event → List NodeStep
happen [] = []
happen (e ∷ es) = Elsewhere (Happens e first) ∷ happen es

-- the voters 0 and 1 hear session 7, and give it their votes, for its first request
abbrev pub are_given : List Event
are_given =
    Marks 1 ∷ pass 10 9 ∷ Marked 1 1 ∷ Beats 7 ∷ pass 10 9 ∷ Hears 7 0 109 ∷ Hears 7 1 109 ∷ Gives 7 0 1 1 ∷ Gives 7 1 1 1 ∷ pass 10 9
    ∷ Renews 7 0 0 ∷ Renews 7 1 0 ∷ []

-- a LOCKED of this voter for that request
abbrev pub locked_by : ℕ → ToClient
locked_by voter = record { voter = voter; client = 7; seen = 1; body = to_client.Locked 1 1 }

-- both acknowledged the heartbeat that left at 109
abbrev pub lease : VoterLease
lease = record { incarnation = first; beat = Some 109 }

abbrev pub leases : List VoterLease
leases = lease ∷ lease ∷ []

-- A call of session 7 comes, its client asks, and gets both votes. The lock is handed to the call.
abbrev pub a_call : List NodeStep
a_call =
    AtLock 7 (CallComes false) ∷ AtLock 7 (AsksQuorum (0 ∷ 1 ∷ [])) ∷ happen are_given
    ++ AtLock 7 (TakesMessage (locked_by 0) first leases 127 0) ∷ AtLock 7 (TakesMessage (locked_by 1) first leases 127 0)
    ∷ AtLock 7 (HandsLock leases 127) ∷ []

-- ---- and after it one of session 8

-- the voters 1 and 2 hear session 8, and give it their votes, for its first request
abbrev pub are_given_to_eight : List Event
are_given_to_eight =
    Beats 8 ∷ Gives 8 1 1 2 ∷ Gives 8 2 1 1 ∷ Hears 8 1 226 ∷ Hears 8 2 226 ∷ pass 10 9 ∷ Renews 8 1 0 ∷ Renews 8 2 0 ∷ []

-- a LOCKED of this voter for that request, of this grant
abbrev pub locked_for_eight : ℕ → ℕ → ToClient
locked_for_eight voter grant = record { voter = voter; client = 8; seen = 1; body = to_client.Locked 1 grant }

-- both acknowledged the heartbeat that left at 226, and voter 0 none
abbrev pub lease_of_eight : VoterLease
lease_of_eight = record { incarnation = first; beat = Some 226 }

abbrev pub leases_of_eight : List VoterLease
leases_of_eight = begun_lease ∷ lease_of_eight ∷ lease_of_eight ∷ []

-- The call of session 7 gives the lock back, and its client leaves. A call of session 8 comes that only tries. Voter 1 lets the vote of
-- session 7 go, as that is silent, and the client of session 8 gets its votes. The lock is handed to the call, which is told up to when.
abbrev pub another_call : List NodeStep
another_call =
    AtLock 7 (CallUnlocks 1) ∷ AtLock 7 LeavesLock ∷ AtLock 8 (CallComes true) ∷ happen is_let_go
    ++ AtLock 8 (AsksQuorum (1 ∷ 2 ∷ [])) ∷ happen are_given_to_eight
    ++ AtLock 8 (TakesMessage (locked_for_eight 1 2) first leases_of_eight 235 0) ∷ AtLock 8 (TakesMessage (locked_for_eight 2 1) first leases_of_eight 235 0)
    ∷ AtLock 8 (HandsLock leases_of_eight 235) ∷ AtLock 8 (TellsCall leases_of_eight) ∷ []
