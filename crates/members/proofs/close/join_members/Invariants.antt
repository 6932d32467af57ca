use Rattle.std.proofs.Common.{◌≡◌, ℕ, ◌+◌, ◌*◌, ◌++◌, ◌<◌, length}
use Rattle.std.specs.List.{All}
use Rattle.quorum_set.specs.declared.bridge.Side.{Side}
use Rattle.clerks.specs.Clerks.{HasShare, names_of, receipts_of}
use Rattle.members.specs.Records.{all_passes, all_receipts}
use Rattle.members.proofs.close.join_members.Given as goal

abbrev pub invariant-loop-member : goal.invariant-loop-member
invariant-loop-member g l = record {
  table : l.root.table ≡ l.fn.root.table;
  names : names_of l.clerks ≡ names_of l.fn.clerks;
  seats : l.root.seats ≡ l.fn.root.seats + length l.yielded;
  passes : l.root.passes ≡ l.fn.root.passes ++ all_passes l.yielded;
  each : All (λ p. p.0 < g.N.ClusterName.cluster.board.clients) (all_passes l.yielded);
  receipts : (side : Side) → receipts_of l.clerks side ≡ receipts_of l.fn.clerks side ++ all_receipts side l.yielded;
  share : (n : ℕ) → HasShare l.fn.clerks n → HasShare l.clerks (n + length l.yielded * g.N.ClusterName.cluster.quota);
}
