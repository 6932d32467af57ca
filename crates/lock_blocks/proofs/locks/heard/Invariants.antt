use Rattle.std.proofs.Common.{◌≡◌, ◌≤◌, ℕ, Option, length, take}
use Rattle.blocks.specs.Tables.{AreRows, row_or_none}
use Rattle.lock_node.specs.Letters.{heard}
use Rattle.sessions.specs.Rows.{Row}
use Rattle.lock_blocks.proofs.locks.heard.Given as goal

abbrev pub invariant-loop-message : goal.invariant-loop-message
invariant-loop-message l = record {
  heard : (rows : ℕ → Option Row) → AreRows l.table rows → l.kept.items ≡ heard (row_or_none rows) l.held (take l.message-index l.messages);
  few : length l.kept.items ≤ l.message-index;
}
