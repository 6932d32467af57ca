-- How the root's fields agree with its view, and what the fields of seats may be.
use Rattle.std.specs.Prelude.{◌≡◌, ◌≢◌, ℕ, ◌+◌, ◌<◌, ◌≤◌, cond, Bool, true, false, List, [], Option, None, Some, length, map, nat_lt, slice_index, slice_index_or}
use Rattle.std.specs.List.{sum_by}
use Rattle.atomic_table.specs.Seated.{TableId}
use Rattle.numbers.specs.Bounds.{max_voters, max_clients, max_stamp}
use Rattle.board.specs.declared.table.View.{View}
use Rattle.board.specs.Seats.{BoardState, RootState}

-- 1 for true, 0 for false
abbrev pub weight : Bool → ℕ
weight b = cond b 1 0

-- The root has `count` seats, among them all that were never given. It stands for each voter whose
-- seat was never given, and has the passes of the joined seats.
pub record IsRoot (u : View) (count : ℕ) (free_voters free_clients : List Bool) (kept : List (ℕ × ℕ)) : Type 0 where
  pub parts : u.parts ≡ count + 1
  pub enough : sum_by weight free_voters + sum_by weight free_clients ≤ count
  pub client : u.client ≡ 0
  pub held : u.held ≡ []
  pub reading : u.reading ≡ None
  pub passes : u.passes ≡ map (λ p. p.1) kept
  pub wide : length u.voters ≡ max_voters
  pub given : (v : ℕ) → slice_index_or free_voters v false ≡ true → slice_index u.voters v ≡ 1

-- each of these numbers, with the client
abbrev pub passes_of : ℕ → List ℕ → List (ℕ × ℕ)
passes_of client numbers = map (λ x. (client, x)) numbers

-- each voter whose flag is true has a word besides the register's
abbrev pub AreWithin : ℕ → List Bool → Type 0
AreWithin words voters = (v : ℕ) → slice_index_or voters v false ≡ true → v + 1 < words

-- each voter whose vote is held has a word besides the register's
abbrev pub AreOnBoard : ℕ → List ℕ → Type 0
AreOnBoard words held = (v : ℕ) → slice_index held v ≢ 0 → v + 1 < words

-- The current grant, if there is one, has a client below 64, and its number is from 1 to `last`,
-- the number of the last grant. That is at most 2^40.
abbrev pub IsCurrent : Option (ℕ × ℕ) → ℕ → Type 0
IsCurrent None last = last ≤ max_stamp
IsCurrent (Some x) last = (x.0 < max_clients) × (1 ≤ x.1) × (x.1 ≤ last) × (last ≤ max_stamp)

-- a root of this table that has the seat of each of `m` voters and `n` clients, and no passes
pub record HasAllSeats (board : TableId) (m n : ℕ) (root : RootState) : Type 0 where
  pub table : root.table ≡ board
  pub seats : root.seats ≡ m + n
  pub passes : root.passes ≡ []
  pub voters : (v : ℕ) → slice_index_or root.voters v false ≡ nat_lt v m
  pub clients : (c : ℕ) → slice_index_or root.clients c false ≡ nat_lt c n

-- A new board for `m` voters, these quorums and `n` clients, and its root with all seats. The first
-- coterie has `f` of the quorums, and the register's highest number is `l`.
pub record IsNewBoard (m : ℕ) (sets : List (List ℕ)) (f n l : ℕ) (made : BoardState × RootState) : Type 0 where
  pub voters : made.0.voters ≡ m
  pub quorums : made.0.quorums ≡ sets
  pub firsts : made.0.firsts ≡ f
  pub clients : made.0.clients ≡ n
  pub limit : made.0.limit ≡ l
  pub root : HasAllSeats made.0.table m n made.1
