-- Nodes: a voter, the messages that it took, and its seat on the board.
use Rattle.std.specs.Prelude.{◌≡◌, ℕ, ◌<◌, ◌≤◌, Bool, true, false, List, [], ◌∷◌, Option, None, Some, option_map}
use Rattle.std.specs.List.{All}
use Rattle.numbers.specs.Bounds.{max_clients, max_stamp}
use Rattle.message.specs.declared.message.ToVoter.{ToVoter}
use Rattle.voter.specs.declared.state.Grant.{Grant}
use Rattle.voter.specs.declared.state.VoterState.{VoterState}
use Rattle.voter.specs.Steps.{IsSound, start, step}
use Rattle.voter.specs.VoterContract.{IsEntry}
use Rattle.board.specs.Seats.{BoardState, VoterSeatState as SeatState}

-- a node: its voter, the messages that the voter took, in order, and the voter's number
pub record NodeState : Type 0 where
  pub voter : VoterState
  pub log : List ToVoter
  pub number : ℕ

-- the voter after one more message; none if that is refused
abbrev pub next : Option VoterState → ToVoter → Option VoterState
next None m = None
next (Some v) m = option_map (λ o. o.state) (step v m)

-- the voter after these messages, in order; none if one of them is refused
abbrev pub run : Option VoterState → List ToVoter → Option VoterState
run v [] = v
run v (m ∷ ms) = run (next v m) ms

-- the client and the number of a grant
abbrev pub seat_grant : Option Grant → Option (ℕ × ℕ)
seat_grant None = None
seat_grant (Some g) = Some (g.client, g.grant)

-- the message names this voter, and a client of the board
pub record IsFor (board : BoardState) (voter : ℕ) (m : ToVoter) : Type 0 where
  pub voter_is : m.voter ≡ voter
  pub client : m.client < board.clients

-- The voter is what its definition makes of the log, in order, starting from a voter that received
-- nothing and may give 2^40 grants. Its seat on the board has the voter's current grant. The number
-- of the seat's last grant is how many grants the voter gave.
pub record IsNode (board : BoardState) (voter : VoterState) (log : List ToVoter) (seat : SeatState) : Type 0 where
  pub follows : run (Some (start seat.voter max_stamp)) log ≡ Some voter
  pub known : All (IsFor board seat.voter) log
  pub table : seat.table ≡ board.table
  pub inside : seat.voter < board.voters
  pub current : seat.current ≡ seat_grant voter.held
  pub last : seat.last ≡ voter.granted
  pub id : voter.id ≡ seat.voter
  pub limit : voter.limit ≡ max_stamp
  -- each client that holds the vote or waits for it is one of the board
  pub clients : (client stamp : ℕ) → IsEntry voter client stamp → client < board.clients
  pub few : board.clients ≤ max_clients
  pub sound : IsSound voter

-- the seat after it settled its grant, if a message frees the vote
abbrev pub settle_grant : Bool → SeatState → SeatState
settle_grant false seat = seat
settle_grant true seat = record seat { current = None }

-- the seat after it offers the voter's grant; nothing changes if it has a current grant or the
-- voter has none
abbrev pub offer_grant_by : Option (ℕ × ℕ) → Option Grant → SeatState → SeatState
offer_grant_by (Some x) held seat = seat
offer_grant_by None None seat = seat
offer_grant_by None (Some g) seat = record seat { current = Some (g.client, g.grant); last = g.grant }

abbrev pub offer_grant : Option Grant → SeatState → SeatState
offer_grant held seat = offer_grant_by seat.current held seat
