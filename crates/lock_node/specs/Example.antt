-- A voter that is new: no number has a session, and no vote is granted or waited for.
use Rattle.std.specs.Prelude.{ℕ, []}
use Rattle.session_rows.specs.Calls.{floor_row}
use Rattle.voter.specs.Steps.{start}
use Rattle.voter_node.specs.Nodes.{node_of}
use Rattle.lock_node.specs.Locks.{LockNode}

-- a new voter: its number, and how many grants it may give for each lock
abbrev pub new_voter : ℕ → ℕ → LockNode
new_voter id limit = record {
  rows = λ number. floor_row 0 0;
  saved = λ number. floor_row 0 0;
  locks = λ lock. node_of (start id limit);
  outbox = [];
}
