-- What the word of a voter's vote says.
use Rattle.std.specs.Prelude.{ℕ, ◌+◌, ◌*◌, ◌/◌, ◌≤◌, ◌==◌, cond, List, replicate}
use Rattle.numbers.specs.Bounds.{max_voters, max_stamp}
use Rattle.board.specs.declared.vote.Vote.{Vote}
use Rattle.board.specs.declared.vote.Vote.TheVariants.{Free, Offered, Held, Returned}

-- A grant's name: one number for its client, below 64, and its number, from 1 on. 0 names no grant.
abbrev pub name_of : ℕ → ℕ → ℕ
name_of client grant = 64 * grant + client

-- the word of a free vote
abbrev pub free_word : ℕ
free_word = 0

-- the word of a vote that is offered to the client of this grant
abbrev pub offered_word : ℕ → ℕ
offered_word name = 4 * name + 1

-- the word of a vote that is held under this grant
abbrev pub taken_word : ℕ → ℕ
taken_word name = 4 * name + 2

-- the word of a vote that was given back under this grant, and is not settled yet
abbrev pub returned_word : ℕ → ℕ
returned_word name = 4 * name + 3

-- the word of each state of a vote
abbrev pub word_of : Vote → ℕ
word_of Free = free_word
word_of (Offered client grant) = offered_word (name_of client grant)
word_of (Held client grant) = taken_word (name_of client grant)
word_of (Returned client grant) = returned_word (name_of client grant)

-- the number of the vote's grant, if it has one, is at most 2^40
abbrev pub IsSmall : Vote → Type 0
IsSmall Free = Unit {0}
IsSmall (Offered client grant) = grant ≤ max_stamp
IsSmall (Held client grant) = grant ≤ max_stamp
IsSmall (Returned client grant) = grant ≤ max_stamp

-- a voter may settle a vote in this state, and the vote's grant, as client and number, has property
-- P
abbrev pub IsSettledFrom : Vote → (ℕ × ℕ → Type 0) → Type 0
IsSettledFrom Free P = ⊥
IsSettledFrom (Offered client grant) P = P (client, grant)
IsSettledFrom (Held client grant) P = ⊥
IsSettledFrom (Returned client grant) P = P (client, grant)

-- the name of the grant in a word
abbrev pub name_in : ℕ → ℕ
name_in word = word / 4

-- the number of the grant in a word
abbrev pub number_in : ℕ → ℕ
number_in word = word / 256

-- 1 if the numbers are equal, else 0
abbrev pub is : ℕ → ℕ → ℕ
is a b = cond (a == b) 1 0

-- a number for each voter that there can be, all 0
abbrev pub nobody : List ℕ
nobody = replicate max_voters 0
