-- A session keeps its votes, is told to work, and works on while a voter loses its state.
use Rattle.std.specs.Prelude.{ℕ, ◌==◌, List, [], ◌∷◌, ◌++◌, drop, take, if◌then◌else◌}
use Rattle.working.specs.Events.{Event, Renews, Takes}
use Rattle.working.specs.Example.{eight_works, is_kept, is_let_go, seven_works}
use Rattle.vote_leases.specs.Sessions.{Asks, Happens, Holds, Learns, Step}
use Rattle.vote_leases.specs.declared.incarnation.Incarnation.{Incarnation}

-- a voter's first process, and its second one
abbrev pub first : Incarnation
first = record { run = 0; start = 0; lapses = 0 }

abbrev pub second : Incarnation
second = record { run = 0; start = 1; lapses = 0 }

-- a voter that starts again may have lost its state
abbrev pub lapses_of : ℕ → ℕ → Incarnation → ℕ
lapses_of session voter i = i.start

-- the voter of which a message comes with an event
abbrev pub voter_of : Event → ℕ
voter_of (Renews session voter place) = voter
voter_of (Takes session voter place) = voter
voter_of e = 0

-- these events, where the headers of each voter say this incarnation
abbrev pub under : (ℕ → Incarnation) → List Event → List Step
under of_voter [] = []
under of_voter (e ∷ es) = Happens e (of_voter (voter_of e)) ∷ under of_voter es

-- session 7 asks, and voters 0 and 1 give it their votes
abbrev pub asks_and_works : List Step
asks_and_works = Asks 7 1 ∷ under (λ voter. first) seven_works

-- Voter 1 starts again. The session keeps what counted, takes the LOCKED of the new start, and beats on.
abbrev pub works_on : List Step
works_on = under (λ voter. first) (take 2 is_kept) ++ Holds 7 1 ∷ Learns 7 1 second ∷ under (λ voter. if voter == 1 then second else first) (drop 2 is_kept)

-- Session 7 falls silent, and voter 1 lets its vote go. Session 8 asks, and voters 1 and 2 give it their votes. What was said to session 7
-- comes again.
abbrev pub is_followed : List Step
is_followed = under (λ voter. first) is_let_go ++ Asks 8 1 ∷ under (λ voter. first) eight_works
