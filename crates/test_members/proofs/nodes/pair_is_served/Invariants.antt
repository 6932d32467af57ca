use Rattle.node.specs.Names.{no_cluster}
use Rattle.test_members.proofs.nodes.pair_is_served.Given as goal

abbrev pub ghosts-is_served : goal.ghosts-is_served
ghosts-is_served a = record { cluster = record no_cluster { board = a.board.now } }
