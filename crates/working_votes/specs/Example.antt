-- A session asks a voter, and works by its vote. It works on while the voter is killed and starts again, and gives the vote back. The
-- voter ends and starts, and then an older copy of its state is put back.
use Rattle.std.specs.Prelude.{ℕ, true, false, List, [], ◌∷◌, ◌++◌, Some}
use Rattle.message.specs.declared.message.ToVoter.{ToVoter}
use Rattle.message.specs.declared.message.VoterBody.TheVariants as asks
use Rattle.voter.specs.declared.state.VoterState.{VoterState}
use Rattle.voter.specs.Steps.{start}
use Rattle.working.specs.Events.{Beats, Ends, Hears, Marked, Marks, Renews, Takes}
use Rattle.working.specs.Example.{pass}
use Rattle.vote_leases.specs.Example.{first, second, under}
use Rattle.vote_leases.specs.Sessions.{Asks, Holds, Learns, Step}
use Rattle.working_votes.specs.Turns.{Alters, Askers, Crashes, Evicts, Happens, Loses, Meets, Place, Turn, Wakes, all_after, all_events, started}

-- voters that may give two grants, and gave none
abbrev pub new_voters : ℕ → Place
new_voters voter = started (start voter 2) false

-- each client is a session
abbrev pub by_client : Askers
by_client client stamp = client

-- the REQUEST of client 7 under stamp 1, and its RELEASE
abbrev pub request : ToVoter
request = record { client = 7; voter = 0; body = asks.Request 1 }

abbrev pub release : ToVoter
release = record { client = 7; voter = 0; body = asks.Release 1 }

-- The voter 0 hears session 7, and takes its REQUEST. The sessions' clocks are slower than the voters' by a tenth.
abbrev pub seven_asks : List Turn
seven_asks =
    Happens (Marks 0) ∷ Happens (pass 10 9) ∷ Happens (Marked 0 1) ∷ Happens (Beats 7) ∷ Happens (pass 10 9) ∷ Happens (Hears 7 0 109)
    ∷ Meets 0 request false ∷ Happens (pass 10 9) ∷ Happens (Renews 7 0 0) ∷ Happens (Takes 7 0 0) ∷ []

-- the last state of the voter that was saved: the request has its vote, by the first grant
abbrev pub saved : VoterState
saved = record (start 0 2) { held = Some (record { client = 7; stamp = 1; grant = 1 }); granted = 1 }

-- a heartbeat of session 7 that left at this time is heard and acknowledged
abbrev pub beat_at : ℕ → List Turn
beat_at time = Happens (Beats 7) ∷ Happens (Hears 7 0 time) ∷ Happens (Renews 7 0 0) ∷ []

-- a marker leaves the voter, and comes back after so much time of voters and sessions
abbrev pub mark_after : ℕ → ℕ → ℕ → List Turn
mark_after number voters sessions = Happens (Marks 0) ∷ Happens (pass voters sessions) ∷ Happens (Marked 0 number) ∷ []

-- The voter is killed, and hears from the session that it is inside. The session beats on until the quiet time is over.
abbrev pub works_on : List Turn
works_on =
    Loses 0 saved ∷ Meets 0 request true ∷ Happens (Takes 7 0 0) ∷ beat_at 127 ++ mark_after 1 50 45 ++ beat_at 172 ++ mark_after 2 50 45
    ++ beat_at 217 ++ mark_after 3 10 9 ++ Wakes 0 ∷ []

-- What session 7 does meanwhile: it asks, and keeps its vote. Once the voter was killed it hears of another start, and keeps what counted.
abbrev pub seven_is_told : List Step
seven_is_told =
    Asks 7 1 ∷ under (λ voter. first) (all_events by_client new_voters seven_asks)
    ++ Holds 7 0 ∷ Learns 7 0 second ∷ under (λ voter. second) (all_events by_client (all_after new_voters seven_asks) works_on)

-- the session ends its request, and its RELEASE reaches the voter
abbrev pub gives_back : List Turn
gives_back = Happens (Ends 7 1) ∷ Meets 0 release false ∷ []

-- The voter ends, starts again, and may give twenty grants. It is killed, and starts from the state of before, in which the session has
-- its vote. Nobody says that he is inside, so that grant is let go, and the quiet time ends.
abbrev pub starts_anew : List Turn
starts_anew =
    Crashes 0 ∷ Alters 0 (start 0 20) ∷ Loses 0 saved ∷ Evicts 0 1 ∷ mark_after 1 50 45 ++ mark_after 2 50 45 ++ mark_after 3 10 9 ++ Wakes 0 ∷ []

-- all of it
abbrev pub whole : List Turn
whole = seven_asks ++ works_on ++ gives_back ++ starts_anew
