-- What a board and its seats keep between any two calls.
use Rattle.std.specs.Prelude.{◌≡◌, ℕ, ◌+◌, ◌*◌, ◌<◌, ◌≤◌, Bool, List, [], length, Option, IfSome}
use Rattle.std.specs.List.{All}
use Rattle.atomic_table.specs.Seated.{TableId}
use Rattle.atomic_table.specs.Table.{Me}
use Rattle.numbers.specs.Bounds.{max_voters, max_quorums, max_clients, max_stamp, max_tickets}
use Rattle.quorum_set.specs.Meetings.{AllMeet}
use Rattle.board.specs.declared.table.View.{View}
use Rattle.board.specs.Seats.{Setting}
use Rattle.board.specs.Roots.{IsRoot, AreWithin, AreOnBoard, IsCurrent}
use Rattle.board.specs.Views.{voter_view, client_view}

-- The table has one word for each voter and one for the register, and was made with the board's
-- sheet. The sheet's numbers are in range, and any two of its quorums meet. The first coterie has
-- no more quorums than the sheet. A coterie has at most 4096 quorums, and there are at most two coteries.
pub record IsBoard (key : Setting) (table : TableId) (sheet : Setting) (firsts : ℕ) : Type 0 where
  pub same_sheet : key ≡ sheet
  pub words : table.words ≡ sheet.voters + 1
  pub no_slots : table.slots ≡ 0
  pub some_limit : 1 ≤ sheet.limit
  pub limit : sheet.limit ≤ max_tickets
  pub some_client : 1 ≤ sheet.clients
  pub few_clients : sheet.clients ≤ max_clients
  pub some_voter : 1 ≤ sheet.voters
  pub few_voters : sheet.voters ≤ max_voters
  pub meet : AllMeet sheet.voters sheet.quorums
  pub few_firsts : firsts ≤ length sheet.quorums
  pub few_quorums : length sheet.quorums ≤ 2 * max_quorums

-- a voter's seat: its view is that of its current grant, and its voter is one of the table's
pub record IsVoterSeat (me : Me (Unit {0}) View) (table : TableId) (voter : ℕ) (current : Option (ℕ × ℕ)) (last : ℕ)
    : Type 0 where
  pub view : me ≡ (voter_view voter current, [])
  pub few : voter < max_voters
  pub grant : IsCurrent current last
  pub on_table : voter + 1 < table.words

-- a client's seat: its view has its votes, its reading and its passes, and the votes that it holds
-- are of the table's voters
pub record IsClientSeat
    (me : Me (Unit {0}) View) (table : TableId) (client : ℕ) (held : List ℕ) (reading : Option (ℕ × ℕ)) (passes : List ℕ)
    : Type 0 where
  pub view : me ≡ (client_view client held reading passes, [])
  pub few : client < max_clients
  pub grants : All (λ g. g ≤ max_stamp) held
  pub number : IfSome reading (λ r. r.1 ≤ max_tickets)
  pub on_table : AreOnBoard table.words held

-- the root: its view agrees with its fields, and each voter whose seat was never given is one of
-- the table's
pub record IsRootSeat
    (me : Me (Unit {0}) View) (table : TableId) (seats : ℕ) (voters clients : List Bool) (passes : List (ℕ × ℕ))
    : Type 0 where
  pub no_slots : me.1 ≡ []
  pub root : IsRoot me.0 seats voters clients passes
  pub on_table : AreWithin table.words voters
