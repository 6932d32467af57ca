-- Clusters, as contracts see them.
use Rattle.std.specs.Prelude.{◌≡◌, ℕ, ◌*◌, ◌≤◌, ◌++◌, Option, IfSome, length}
use Rattle.numbers.specs.Bounds.{max_voters, max_clients, max_tickets}
use Rattle.board.specs.Roots.{HasAllSeats}
use Rattle.board.specs.Seats.{RootState}
use Rattle.dealer.specs.Offices.{OfficeName}
use Rattle.clerks.specs.Clerks.{ClerksState, OfficesState, fresh_clerks, offices_with, quorums_in}
pub use Rattle.node.specs.Names.{ClusterState, no_cluster}

-- the names of a cluster's offices
abbrev pub names_in : ClusterState → OfficeName × Option OfficeName
names_in c = (c.office, c.second)

-- The board has the voters and the quorums of the plan by which the first office deals, and then the
-- quorums of the second plan, if there is one. That plan has the same voters. There are 1 to 64
-- clients, and the limit is 2^63.
pub record IsCluster (c : ClusterState) : Type 0 where
  pub voters : c.board.voters ≡ c.office.cycle.system.voters
  pub quorums : c.board.quorums ≡ c.office.cycle.system.quorums ++ quorums_in c.second
  pub firsts : c.board.firsts ≡ length c.office.cycle.system.quorums
  pub same_voters : IfSome c.second (λ o. c.board.voters ≡ o.cycle.system.voters)
  pub few_voters : c.board.voters ≤ max_voters
  pub some_client : 1 ≤ c.board.clients
  pub clients : c.board.clients ≤ max_clients
  pub limit : c.board.limit ≡ max_tickets

-- a running cluster: its offices; where its messages go is in `mailroom`
pub record Runs (c : ClusterState) (offices : OfficesState) : Type 0 where
  pub cluster : IsCluster c
  pub offices_are : offices ≡ offices_with (names_in c) (c.board.clients * c.quota)

-- a cluster that is not open yet: all rights to seats and tickets are with the root and the clerks
pub record IsBlank (c : ClusterState) (offices : OfficesState) (root : RootState) (clerks : ClerksState)
    (voters clients : ℕ) : Type 0 where
  pub cluster : IsCluster c
  pub offices_are : offices ≡ offices_with (names_in c) (c.board.clients * c.quota)
  pub voters_are : voters ≡ c.board.voters
  pub clients_are : clients ≡ c.board.clients
  pub root_is : HasAllSeats c.board.table voters clients root
  pub clerks_are : clerks ≡ fresh_clerks (names_in c) (c.board.clients * c.quota)
