-- A call of session 7 has the lock, and after it one of session 8, in the worlds of `vote_leases`.
use Rattle.std.specs.Prelude.{List, [], ◌∷◌, ◌++◌, true, false}
use Rattle.working.specs.Events.{Ends}
use Rattle.vote_leases.specs.Example.{asks_and_works, first, is_followed}
use Rattle.vote_leases.specs.Sessions.{Happens, Step}
use Rattle.callers.specs.Steps.{Hands, Unlocks, Wants}
use Rattle.callers.specs.Worlds.{CallerStep, ToCalls, InWorld, TellsUntil}
use Rattle.callers.specs.declared.calls.Phase.TheVariants.{Idle, Inside}

-- these steps
abbrev pub goes : List Step → List CallerStep
goes [] = []
goes (s ∷ steps) = InWorld s ∷ goes steps

-- a call of session 7 comes, and the session gets its votes
abbrev pub seven_comes : List CallerStep
seven_comes = ToCalls 7 (Wants Idle false) 0 ∷ goes asks_and_works

-- the lock is handed to the call
abbrev pub seven_is_handed : CallerStep
seven_is_handed = ToCalls 7 (Hands (Inside 1) true) 189

abbrev pub a_call_of_seven : List CallerStep
a_call_of_seven = seven_comes ++ seven_is_handed ∷ []

-- It gives the lock back, and the session leaves.
abbrev pub seven_unlocks : List CallerStep
seven_unlocks = ToCalls 7 (Unlocks 1) 0 ∷ InWorld (Happens (Ends 7 1) first) ∷ []

-- A call of session 8 comes that only tries. A voter lets the vote of session 7 go, as that is silent, and session 8 gets its votes.
abbrev pub eight_comes : List CallerStep
eight_comes = ToCalls 8 (Wants Idle true) 0 ∷ goes is_followed

-- the lock is handed to that call, which is told again up to when it has it
abbrev pub eight_is_handed : List CallerStep
eight_is_handed = ToCalls 8 (Hands (Inside 1) true) 306 ∷ TellsUntil 8 306 ∷ []

abbrev pub a_call_of_eight : List CallerStep
a_call_of_eight = seven_unlocks ++ eight_comes ++ eight_is_handed
