-- The kinds of step: what each finds in its word and leaves there, and what it changes in the seat
-- that makes it. `found` is what the word was. A store or a swap writes `st.first`. An exchange
-- looks for `st.first` and, if it finds it, writes `st.second`.
use Rattle.std.specs.Prelude.{◌≡◌, ◌≢◌, ◌⊎◌, ℕ, ◌+◌, ◌-◌, ◌<◌, ◌≤◌, [], ◌∷◌, ◌++◌, Some, None, slice_index, slice_set}
use Rattle.std.specs.List.{All}
use Rattle.atomic_table.specs.Table.{Me, Step}
use Rattle.numbers.specs.Bounds.{max_tickets}
use Rattle.board.specs.declared.table.View.{View}
use Rattle.board.specs.Words.{name_of, free_word, offered_word, taken_word, returned_word, name_in, number_in}

-- a seat's view, and the slots that it holds; here it holds none
abbrev pub Mine : Type 0
Mine = Me (Unit {0}) View

-- From free to offered. A voter's seat finds its vote free and offers it. The word that it writes
-- names the grant, which the seat knows from then on.
abbrev pub Granted : Step (Unit {0}) → Mine → ℕ → Mine → Type 0
Granted st m found w =
    (found ≡ free_word) × (st.first ≡ offered_word (name_in st.first))
    × (w ≡ (record m.0 { voters = slice_set m.0.voters st.word (name_in st.first + 1) }, m.1))

-- From offered or returned to free. A voter's seat looks for one of these two states under the
-- grant that it knows. If the vote is in that state, the seat ends the grant; otherwise nothing
-- changes.
abbrev pub Settled : Step (Unit {0}) → Mine → ℕ → Mine → Type 0
Settled st m found w =
    (slice_index m.0.voters st.word ≡ name_in st.first + 1)
    × ((st.first ≡ offered_word (name_in st.first)) ⊎ (st.first ≡ returned_word (name_in st.first))) × (st.second ≡ free_word)
    × (found ≡ st.first → w ≡ (record m.0 { voters = slice_set m.0.voters st.word 1 }, m.1))
    × (found ≢ st.first → w ≡ m)

-- From offered to held. A client's seat takes the vote if it is offered to this client under the
-- grant that the step names; otherwise nothing changes.
abbrev pub Took : Step (Unit {0}) → Mine → ℕ → Mine → Type 0
Took st m found w =
    (st.first ≡ offered_word (name_of m.0.client (number_in st.first)))
    × (st.second ≡ taken_word (name_of m.0.client (number_in st.first)))
    × (found ≡ st.first → w ≡ (record m.0 { held = slice_set m.0.held st.word (number_in st.first) }, m.1))
    × (found ≢ st.first → w ≡ m)

-- From held to returned. A client's seat finds that it holds the vote, and gives it back. Its
-- reading no longer counts.
abbrev pub GaveBack : Step (Unit {0}) → Mine → ℕ → Mine → Type 0
GaveBack st m found w =
    (found ≡ taken_word (name_of m.0.client (slice_index m.0.held st.word)))
    × (st.first ≡ returned_word (name_of m.0.client (slice_index m.0.held st.word)))
    × (w ≡ (record m.0 { held = slice_set m.0.held st.word 0; reading = None }, m.1))

-- A client's seat reads the register for quorum j. The number is above each of its pass numbers,
-- and at most 2^63.
abbrev pub Read : ℕ → Step (Unit {0}) → Mine → ℕ → Mine → Type 0
Read j st m found w =
    (w ≡ (record m.0 { reading = Some (j, found) }, m.1)) × All (λ x. x < found) m.0.passes × (found ≤ max_tickets)

-- a client's seat writes the register and passes; its pass number is one less than what it writes
abbrev pub Wrote : Step (Unit {0}) → Mine → ℕ → Mine → Type 0
Wrote st m found w = w ≡ (record m.0 { reading = None; passes = m.0.passes ++ (st.first - 1) ∷ [] }, m.1)

-- nothing changes, and the seat stands for at most 129 seats
abbrev pub Counted : Step (Unit {0}) → Mine → ℕ → Mine → Type 0
Counted st m found w = (w ≡ m) × (m.0.parts ≤ 129)
