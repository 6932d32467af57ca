-- What the rule means: how the words, the register and all seats agree between any two steps. A
-- client is inside if the votes that its seat holds cover a quorum (Maekawa, ACM TOCS 3(2), 1985).
use Rattle.std.specs.Prelude.{◌≡◌, ◌≢◌, ◌⊎◌, ◌↔◌, ℕ, zero, suc, ◌+◌, ◌<◌, ◌≤◌, List, length, Some, slice_index, flat_map}
use mathlib.Core.Option.{some}
use lib.ListN.{get_elem?}
use Rattle.atomic_table.specs.Table.{State}
use Rattle.numbers.specs.Bounds.{max_clients}
use Rattle.numbers.specs.Sums.{AreAllBelow}
use Rattle.board.specs.declared.table.View.{View}
use Rattle.board.specs.Seats.{Setting}
use Rattle.quorum_set.specs.Meetings.{AllMeet}
use Rattle.board.specs.Quorums.{quorum_at, HoldsAll}
use Rattle.board.specs.Words.{name_of, offered_word, taken_word, returned_word}
use Rattle.board.specs.Rule.{Kept}

-- What a voter's word says when the voter's current grant has this name. Name 0 means that there is
-- no grant: the vote is free. Otherwise it is offered, held or given back under that grant.
abbrev pub IsWordOf : ℕ → ℕ → Type 0
IsWordOf zero word = word ≡ 0
IsWordOf (suc n) word = (word ≡ offered_word (suc n)) ⊎ (word ≡ taken_word (suc n)) ⊎ (word ≡ returned_word (suc n))

-- Exactly one seat stands for the voter: the voter's own seat, or the root if that seat was not
-- given or was joined again.
abbrev pub OneSeatHas : ℕ → List View → Type 0
OneSeatHas v views =
    (i : ℕ) × (u : View) × (get_elem? views i ≡ some u) × (slice_index u.voters v ≢ 0)
    × ((k : ℕ) (w : View) → get_elem? views k ≡ some w → slice_index w.voters v ≢ 0 → k ≡ i)

-- a seat of client c holds the vote of v under grant g
abbrev pub Holds : List View → ℕ → ℕ → ℕ → Type 0
Holds views c v g = (i : ℕ) × (u : View) × (get_elem? views i ≡ some u) × (u.client ≡ c) × (slice_index u.held v ≡ g)

-- the votes that the seat holds cover a quorum
abbrev pub IsInside : Setting → View → Type 0
IsInside b u = (j : ℕ) × (j < length b.quorums) × HoldsAll (quorum_at b.quorums j) u.held

-- How the words, the register and all seats agree:
-- - Exactly one seat stands for each voter, and the voter's word says what that seat knows.
-- - A client holds a vote under a grant if and only if the word says so. No two seats hold one
--   vote.
-- - A reading is the register's number, and its seat holds the quorum that it read for.
-- - The numbers of all passes are those below the register, each once.
pub record KeepsVotes (b : Setting) (words : List ℕ) (views : List View) : Type 0 where
  pub one_has : (v : ℕ) → v < b.voters → OneSeatHas v views
  pub granted : (v name i : ℕ) (u : View) → v < b.voters → get_elem? views i ≡ some u
      → slice_index u.voters v ≡ name + 1 → IsWordOf name (slice_index words v)
  pub held : (v c g : ℕ) → v < b.voters → c < max_clients → 1 ≤ g
      → Holds views c v g ↔ (slice_index words v ≡ taken_word (name_of c g))
  pub one_holds : (v i k : ℕ) (u w : View) → v < b.voters → get_elem? views i ≡ some u → get_elem? views k ≡ some w
      → slice_index u.held v ≢ 0 → slice_index w.held v ≢ 0 → i ≡ k
  pub readings : (i j x : ℕ) (u : View) → get_elem? views i ≡ some u → u.reading ≡ Some (j, x)
      → (j < length b.quorums) × HoldsAll (quorum_at b.quorums j) u.held × (x ≡ slice_index words b.voters)
  pub passes : AreAllBelow (flat_map (λ u. u.passes) views) (slice_index words b.voters)

-- the rule means that votes are kept between any two steps
abbrev pub VotesAreKept : Type 0
VotesAreKept = (b : Setting) (s : State (Unit {0}) View) → Kept b s → KeepsVotes b s.words s.views

-- if any two quorums meet, of two seats one is not inside
abbrev pub OneInside : Type 0
OneInside = (b : Setting) (s : State (Unit {0}) View) → AllMeet b.voters b.quorums → Kept b s
    → (i k : ℕ) (u w : View) → get_elem? s.views i ≡ some u → get_elem? s.views k ≡ some w
    → IsInside b u → IsInside b w → i ≡ k
