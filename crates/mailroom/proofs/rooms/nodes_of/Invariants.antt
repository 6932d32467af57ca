use Rattle.std.proofs.Common.{◌≡◌, ℕ, ◌+◌, ◌≤◌, false, length, get_or, nat_lt}
use Rattle.mailroom.proofs.rooms.nodes_of.Given as goal

abbrev pub invariant-loop-voter : goal.invariant-loop-voter
invariant-loop-voter g l = record {
  table : l.root.table ≡ l.initial.root.table;
  same : (l.root.clients ≡ l.initial.root.clients) × (l.root.passes ≡ l.initial.root.passes);
  seats : l.root.seats + l.voter ≡ l.initial.root.seats;
  there : (v : ℕ) → l.voter ≤ v → get_or l.root.voters v false ≡ nat_lt v l.fn.voters;
  len : length l.nodes.items ≡ l.voter;
}
