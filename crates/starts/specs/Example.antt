-- A voter of three. Its first process serves. A second one starts from a copy that the first one made before it served, and serves
-- above it: the copy knows nothing of the ceiling, but the others do.
use Rattle.std.specs.Prelude.{ℕ, ◌+◌, true, false, List, [], ◌∷◌}
use Rattle.starts.specs.declared.peer.Peer.{Peer}
use Rattle.starts.specs.declared.start.Answers.{Answers}
use Rattle.starts.specs.Worlds.{Begins, Event, Gives, Hears, IsAsked, Meets, Saves, Turns}

-- the processes 0 and 1 are the first and the second start of one state; each has a word of its own
abbrev pub who : ℕ → Peer
who process = record { identity = 7; run = 0; start = process + 1; process = process; ceiling = 0; ended = 0 }

-- each state asked for no ceiling yet
abbrev pub ceilings : ℕ → ℕ
ceilings process = 0

abbrev pub blocks : ℕ → ℕ
blocks process = 100

-- the others are the voters 1 and 2, and all of them answered
abbrev pub all_answered : Answers
all_answered = record { others = 6; have_silent_quorum = false; have_quorums = true; is_patient = false }

-- both others take the first process, voter 1 keeps its ceiling, and it gives grant 100
abbrev pub first_serves : List Event
first_serves =
    Meets 1 0 0 ∷ Meets 2 0 0 ∷ Saves 1 ∷ Saves 2 ∷ Hears 0 false ∷ Hears 1 false ∷ Begins 0 all_answered
    ∷ IsAsked 1 0 100 ∷ Saves 1 ∷ Hears 2 false ∷ Turns 0 true ∷ Gives 0 100 ∷ []

-- Both others take the second process, and say what they knew: voter 1 the ceiling 100. Voter 1 keeps its ceiling, and it
-- gives grant 101. Grant 100 is not its own.
abbrev pub second_serves : List Event
second_serves =
    Meets 1 1 0 ∷ Meets 2 1 0 ∷ Saves 1 ∷ Saves 2 ∷ Hears 3 false ∷ Hears 4 false ∷ Begins 1 all_answered
    ∷ IsAsked 1 1 200 ∷ Saves 1 ∷ Hears 5 false ∷ Turns 1 true ∷ Gives 1 100 ∷ Gives 1 101 ∷ []
