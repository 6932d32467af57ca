-- Mailrooms, as contracts see them.
use Rattle.std.specs.Prelude.{◌≡◌, ℕ, List, Some, length, slice_get}
use Rattle.board.specs.Seats.{BoardState}

-- each of these numbers is its place in the list
abbrev pub AreNumbered : List ℕ → Type 0
AreNumbered numbers = (k n : ℕ) → slice_get numbers k ≡ Some n → n ≡ k

-- The mailroom of a cluster with this board: a node and a line for each voter, and a mailbox for each
-- client. Lines and mailboxes are in the order of their numbers.
pub record IsMailroom (wanted board : BoardState) (nodes : ℕ) (lines mailboxes : List ℕ) : Type 0 where
  pub board_is : board ≡ wanted
  pub nodes_are : nodes ≡ wanted.voters
  pub lines_many : length lines ≡ wanted.voters
  pub lines_are : AreNumbered lines
  pub mailboxes_many : length mailboxes ≡ wanted.clients
  pub mailboxes_are : AreNumbered mailboxes
