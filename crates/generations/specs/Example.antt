-- Three plans over six voters. The first and the third one have no common voter. One request is inside by each of them in turn.
use Rattle.std.specs.Prelude.{List, [], ◌∷◌, slice_index_or}
use Rattle.generations.specs.Plans.{Plans}
use Rattle.generations.specs.Voters.{Request}
use Rattle.generations.specs.Exchanges.{Ends, Event, Gives, Retires, Saves, Takes}

-- any two of voters 0, 1 and 2; two of these and two of the others; any two of voters 3, 4 and 5
abbrev pub three_plans : Plans
three_plans n = slice_index_or (
    ((0 ∷ 1 ∷ []) ∷ (1 ∷ 2 ∷ []) ∷ (0 ∷ 2 ∷ []) ∷ [])
    ∷ ((0 ∷ 1 ∷ 3 ∷ 4 ∷ []) ∷ (1 ∷ 2 ∷ 4 ∷ 5 ∷ []) ∷ (0 ∷ 2 ∷ 3 ∷ 5 ∷ []) ∷ [])
    ∷ ((3 ∷ 4 ∷ []) ∷ (4 ∷ 5 ∷ []) ∷ (3 ∷ 5 ∷ []) ∷ [])
    ∷ []
    ) n []

abbrev pub by_first : Request
by_first = record { client = 0; stamp = 1; plan = 0 }

abbrev pub by_second : Request
by_second = record { client = 1; stamp = 2; plan = 1 }

abbrev pub by_third : Request
by_third = record { client = 2; stamp = 3; plan = 2 }

-- voters 0 and 1 give their votes by the first plan
abbrev pub first_enters : List Event
first_enters = Gives 0 by_first ∷ Gives 1 by_first ∷ Saves 0 ∷ Saves 1 ∷ []

-- Voters 1, 2, 4 and 5 take the second plan. Voter 1 gets its vote back, and voter 0 never does. The four give their votes by the
-- second plan.
abbrev pub second_enters : List Event
second_enters =
    Takes 1 ∷ Takes 2 ∷ Takes 4 ∷ Takes 5 ∷ Ends 1 by_first ∷ Gives 1 by_second ∷ Gives 2 by_second ∷ Gives 4 by_second ∷ Gives 5 by_second
    ∷ Saves 1 ∷ Saves 2 ∷ Saves 4 ∷ Saves 5 ∷ []

-- The four retire the first plan. Voters 4 and 5 take the third plan, get their votes back, and give them by the third plan.
abbrev pub third_enters : List Event
third_enters =
    Retires 1 ∷ Retires 2 ∷ Retires 4 ∷ Retires 5 ∷ Saves 1 ∷ Saves 2 ∷ Saves 4 ∷ Saves 5
    ∷ Takes 4 ∷ Takes 5 ∷ Ends 4 by_second ∷ Ends 5 by_second ∷ Gives 4 by_third ∷ Gives 5 by_third ∷ Saves 4 ∷ Saves 5 ∷ []
