-- Three voters, of which one loses its state between the requests of two sessions.
use Rattle.std.specs.Prelude.{ℕ, List, [], ◌∷◌, ◌++◌, Some, false, slice_index_or}
use Rattle.sessions.specs.Rows.{Row}
use Rattle.sessions.specs.Tables.{no_row}
use Rattle.lost_rows.specs.Voters.{Answers, Asks, Claims, Event, IsMadeAgain, Loses, Recoveries, Replies, Reply, Reserves, Runs, set}

abbrev pub no_rows : ℕ → Row
no_rows v = no_row

-- any two of three voters
abbrev pub pairs : List (List ℕ)
pairs = (0 ∷ 1 ∷ []) ∷ (1 ∷ 2 ∷ []) ∷ (0 ∷ 2 ∷ []) ∷ []

-- each is made again by the other two
abbrev pub other_two : Recoveries
other_two v = slice_index_or (((1 ∷ 2 ∷ []) ∷ []) ∷ ((0 ∷ 2 ∷ []) ∷ []) ∷ ((0 ∷ 1 ∷ []) ∷ []) ∷ []) v []

-- session 7 asks voters 0 and 1 under stamp 1
abbrev pub first_asks : List Event
first_asks =
    Claims 0 7 1 ∷ Claims 1 7 1 ∷ Reserves 0 7 1 1 ∷ Reserves 1 7 1 1 ∷ Answers 0 ∷ Answers 1 ∷ Asks 7 1 1 (0 ∷ 1 ∷ []) ∷ []

-- voter 0 has a row of session 7, and voter 2 has none
abbrev pub of_seven : Row
of_seven = record { epoch = 1; session = Some 7; base = 0; reserved = 1; again = false }

-- what a voter knows that saved that voter 1 is to have run 1
abbrev pub run_one : Runs
run_one = set (λ u. 0) 1 1

abbrev pub two_replies : List Reply
two_replies =
    record { voter = 2; to = 1; again = 1; row = no_row; knows = run_one }
    ∷ record { voter = 0; to = 1; again = 1; row = of_seven; knows = run_one } ∷ []

-- voter 1 loses its state, and is made again by the replies of the other two
abbrev pub is_made_again : List Event
is_made_again = Loses 1 ∷ Replies 0 1 1 ∷ Replies 2 1 1 ∷ IsMadeAgain 1 1 of_seven two_replies ∷ []

-- then session 8 asks voters 1 and 2 under stamp 2
abbrev pub second_asks : List Event
second_asks =
    Claims 1 8 2 ∷ Claims 2 8 2 ∷ Reserves 1 8 2 2 ∷ Reserves 2 8 2 2 ∷ Answers 1 ∷ Answers 2 ∷ Asks 8 2 2 (1 ∷ 2 ∷ []) ∷ []

abbrev pub two_sessions : List Event
two_sessions = first_asks ++ (is_made_again ++ second_asks)
