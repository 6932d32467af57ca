use Rattle.std.proofs.Common.{◌≡◌, ◌+◌, length}
use Rattle.members.proofs.close.join_nodes.Given as goal

abbrev pub invariant-loop-node : goal.invariant-loop-node
invariant-loop-node g l = record {
  table : l.root.table ≡ l.fn.root.table;
  seats : l.root.seats ≡ l.fn.root.seats + length l.yielded;
  passes : l.root.passes ≡ l.fn.root.passes;
}
