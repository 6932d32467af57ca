-- A session works, is let go while it is silent, and then another one works; and one works on while a voter loses its state.
use Rattle.std.specs.Prelude.{ℕ, List, [], ◌∷◌, ◌++◌}
use Rattle.working.specs.Events.{Beats, Event, Gives, Hears, Keeps, LetsGo, Loses, Marked, Marks, Passes, Renews, Takes, Wakes, World, begins}

-- three voters, of which any two quorums share the voter 1
abbrev pub pairs : List (List ℕ)
pairs = (0 ∷ 1 ∷ []) ∷ (1 ∷ 2 ∷ []) ∷ []

abbrev pub start : World
start = begins (λ voter. 25) (λ voter. 100) (λ session. 100)

-- the clocks of all voters go on by the first, and those of all sessions by the second
abbrev pub pass : ℕ → ℕ → Event
pass voters sessions = Passes (λ voter. voters) (λ session. sessions)

-- The voters 0 and 1 give their votes to session 7, which they hear. The sessions' clocks are slower than the voters' by a
-- tenth.
abbrev pub seven_works : List Event
seven_works =
    Marks 1 ∷ pass 10 9 ∷ Marked 1 1 ∷ Beats 7 ∷ pass 10 9 ∷ Hears 7 0 109 ∷ Hears 7 1 109 ∷ Gives 7 0 1 1 ∷ Gives 7 1 1 1 ∷ pass 10 9
    ∷ Renews 7 0 0 ∷ Renews 7 1 0 ∷ Takes 7 0 0 ∷ Takes 7 1 0 ∷ []

-- nothing is heard of it any more, while markers come back to voter 1, which lets its grant go
abbrev pub is_let_go : List Event
is_let_go = Marks 1 ∷ pass 50 45 ∷ Marked 1 2 ∷ Marks 1 ∷ pass 50 45 ∷ Marked 1 3 ∷ Marks 1 ∷ pass 10 9 ∷ Marked 1 4 ∷ LetsGo 1 ∷ []

-- The voters 1 and 2 give their votes to session 8, and what voter 1 said to session 7 comes again.
abbrev pub eight_works : List Event
eight_works =
    Beats 8 ∷ Gives 8 1 1 2 ∷ Gives 8 2 1 1 ∷ Hears 8 1 226 ∷ Hears 8 2 226 ∷ pass 10 9
    ∷ Renews 8 1 0 ∷ Renews 8 2 0 ∷ Takes 8 1 0 ∷ Takes 8 2 0 ∷ Renews 7 1 1 ∷ Takes 7 1 1 ∷ []

-- a heartbeat of session 7 that left at this time is heard and acknowledged
abbrev pub beat_at : ℕ → List Event
beat_at time = Beats 7 ∷ Hears 7 0 time ∷ Hears 7 1 time ∷ Renews 7 0 0 ∷ Renews 7 1 0 ∷ []

-- Voter 1 loses its state, and hears from session 7 that it works. The session takes the LOCKED, and beats on, until the quiet
-- time is over.
abbrev pub is_kept : List Event
is_kept =
    Loses 1 ∷ Keeps 7 1 1 2 ∷ Takes 7 1 0 ∷ beat_at 127 ++ Marks 1 ∷ pass 50 45 ∷ Marked 1 1 ∷ beat_at 172
    ++ Marks 1 ∷ pass 50 45 ∷ Marked 1 2 ∷ beat_at 217 ++ Marks 1 ∷ pass 10 9 ∷ Marked 1 3 ∷ Wakes 1 ∷ []
