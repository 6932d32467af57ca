-- Two clients that are inside, one after the other, by plans that have no common voter.
use Rattle.std.specs.Prelude.{ℕ, ◌+◌, zero, suc, List, [], ◌∷◌, ◌++◌, None}
use Rattle.world_state.specs.Steps.{Dealing}
use Rattle.world_state.specs.declared.step.Step.{Step}
use Rattle.world_state.specs.declared.step.Step.TheVariants.{Ask, Deliver, Leave}
use Rattle.world.specs.Incidents.{Happens}
use Rattle.world.specs.Restarts.{Goes, OneVoter, Saves}
use Rattle.generations.specs.Turns.{AsksBy}
use Rattle.plan_worlds.specs.Worlds.{Befalls, Event, Retires, World, all_happen, first_world}

-- client 0 asks by plan 0, client 1 by plan 2
abbrev pub by_even : AsksBy
by_even client stamp = client + client

-- a quorum of the first plan, and one of the third
abbrev pub first_quorum : List ℕ
first_quorum = 0 ∷ 1 ∷ []

abbrev pub third_quorum : List ℕ
third_quorum = 4 ∷ 5 ∷ []

abbrev pub both_quorums : List (List ℕ)
both_quorums = first_quorum ∷ third_quorum ∷ []

-- the first ticket is of the first plan, each other one of the third
abbrev pub quorum_of : ℕ → List ℕ
quorum_of zero = first_quorum
quorum_of (suc n) = third_quorum

abbrev pub one_each : Dealing
one_each = record { first = quorum_of; second = None }

abbrev pub goes : Step → Event
goes s = Befalls (Happens (Goes s))

-- client 0 asks voters 0 and 1, gets their votes, and enters
abbrev pub first_enters : List Event
first_enters = goes (Ask 0) ∷ goes (Deliver 0) ∷ goes (Deliver 1) ∷ goes (Deliver 2) ∷ goes (Deliver 3) ∷ []

-- It leaves. Voter 1 hears so, and saves that; voter 0 never does. Voters 1, 2, 4 and 5, a quorum of the second plan, retire the first one.
abbrev pub first_leaves : List Event
first_leaves = goes (Leave 0) ∷ goes (Deliver 5) ∷ Befalls (Happens (Saves (OneVoter 1))) ∷ Retires 1 ∷ Retires 2 ∷ Retires 4 ∷ Retires 5 ∷ []

-- client 1 asks voters 4 and 5, gets their votes, and enters
abbrev pub third_enters : List Event
third_enters = goes (Ask 1) ∷ goes (Deliver 6) ∷ goes (Deliver 7) ∷ goes (Deliver 8) ∷ goes (Deliver 9) ∷ []

-- six voters and two clients, and no plan is retired
abbrev pub new_world : World
new_world = first_world 6 2 10 (λ v. 0)

-- the world after the first client entered, and at the end
abbrev pub first_is_in : World
first_is_in = all_happen one_each new_world first_enters

abbrev pub third_is_in : World
third_is_in = all_happen one_each new_world (first_enters ++ (first_leaves ++ third_enters))
