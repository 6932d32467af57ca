-- The rule that holds for the words of the votes, the register and all seats between any two steps.
-- It is written as sums over all seats: for how many of them a fact holds.
use Rattle.std.specs.Prelude.{◌≡◌, ◌⊎◌, ℕ, ◌+◌, ◌/◌, ◌%◌, ◌<◌, ◌≤◌, List, [], length, slice_index, IfSome}
use Rattle.std.specs.List.{sum_by}
use mathlib.Core.Option.{some}
use lib.ListN.{get_elem?}
use Rattle.atomic_table.specs.Table.{State}
use Rattle.board.specs.declared.table.View.{View}
use Rattle.board.specs.Seats.{Setting}
use Rattle.board.specs.Quorums.{quorum_at, HoldsAll}
use Rattle.board.specs.Words.{name_of, taken_word, is}
use Rattle.numbers.specs.Bounds.{max_clients, max_tickets}
use Rattle.numbers.specs.Sums.{sum_below}

-- 1 if the seat stands for voter v and the grant that it knows has this name, else 0; name 0 means
-- that it knows no current grant
abbrev pub presence : ℕ → ℕ → View → ℕ
presence v name u = is (slice_index u.voters v) (name + 1)

-- 1 if the seat holds the vote of voter v under the grant with this name, else 0
abbrev pub holds_vote : ℕ → ℕ → View → ℕ
holds_vote v name u = is (name_of u.client (slice_index u.held v)) name

-- Exactly one seat stands for v, and it knows the grant that the word names. If the word says that
-- v's vote is held, exactly one seat holds it, under that grant. Otherwise no seat holds it.
pub record IsVote (v word : ℕ) (views : List View) : Type 0 where
  pub shape : (word ≡ 0) ⊎ ((64 ≤ word / 4) × (1 ≤ word % 4))
  pub current : (name : ℕ) → sum_by (presence v name) views ≡ is (word / 4) name
  pub held : (name : ℕ) → 64 ≤ name → sum_by (holds_vote v name) views ≡ is word (taken_word name)

-- if the seat has a reading, it holds the votes of the quorum that it read for, and the number read
-- is the register's
abbrev pub IsReading : Setting → ℕ → View → Type 0
IsReading b register u =
    IfSome u.reading (λ r. (r.0 < length b.quorums) × HoldsAll (quorum_at b.quorums r.0) u.held × (r.1 ≡ register))

-- The pass numbers of all seats together are those below the register, each once. No seat is lost:
-- together they stand for all voters' and clients' seats and the root. A seat that stands for none
-- has no passes.
pub record IsKept (b : Setting) (words : List ℕ) (views : List View) : Type 0 where
  pub long : length words ≡ b.voters + 1
  pub votes : (v : ℕ) → v < b.voters → IsVote v (slice_index words v) views
  pub readings : (i : ℕ) (u : View) → get_elem? views i ≡ some u → IsReading b (slice_index words b.voters) u
  pub passes : (h : ℕ → ℕ) → sum_by (λ u. sum_by h u.passes) views ≡ sum_below h (slice_index words b.voters)
  pub parts : sum_by (λ u. u.parts) views ≡ b.voters + b.clients + 1
  pub idle : (i : ℕ) (u : View) → get_elem? views i ≡ some u → u.parts ≡ 0 → u.passes ≡ []
  pub client : (i : ℕ) (u : View) → get_elem? views i ≡ some u → u.client < max_clients
  pub limit : slice_index words b.voters ≤ b.limit
  pub small : b.limit ≤ max_tickets
  pub few : b.voters + b.clients ≤ 128

-- the rule that each step keeps
abbrev pub Kept : Setting → State (Unit {0}) View → Type 0
Kept b s = IsKept b s.words s.views
