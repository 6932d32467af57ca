-- Clusters: what the name of one says.
use Rattle.std.specs.Prelude.{ℕ, [], Option, None}
use Rattle.board.specs.Seats.{BoardState}
use Rattle.dealer.specs.Offices.{OfficeName}

-- A cluster: its board, the office of its first plan, that of its second plan, if it has one, and how
-- many tickets each client may draw at each office.
pub record ClusterState : Type 0 where
  pub board : BoardState
  pub office : OfficeName
  pub second : Option OfficeName
  pub quota : ℕ

-- a cluster without voters and clients, for places where no cluster is named yet
abbrev pub no_cluster : ClusterState
no_cluster = record {
  board = record {
    table = record { words = 0; slots = 0; views_name = 0; atom = 0; block = 0; offset = 0; slot_names = [] };
    voters = 0;
    quorums = [];
    firsts = 0;
    clients = 0;
    limit = 0;
  };
  office = record {
    table = record { words = 0; slots = 0; views_name = 0; atom = 0; block = 0; offset = 0; slot_names = [] };
    cycle = record { system = record { voters = 0; quorums = [] }; capacities = []; quorum_weights = []; voter_weights = [] };
  };
  second = None;
  quota = 0;
}
