use Rattle.std.proofs.Common.{◌≡◌, ℕ, ◌+◌, ◌-◌, ◌*◌, ◌≤◌, false, get_or, nat_lt, map}
use Rattle.std.specs.List.{range_with_len}
use Rattle.clerks.specs.Clerks.{fresh_clerks}
use Rattle.members.specs.Clusters.{names_in}
use Rattle.members.specs.Members.{fresh_member}
use Rattle.members.proofs.blank.members_of.Given as goal

abbrev pub invariant-loop-client : goal.invariant-loop-client
invariant-loop-client g l = record {
  table : l.root.table ≡ l.initial.root.table;
  passes : l.root.passes ≡ l.initial.root.passes;
  seats : l.root.seats + l.client ≡ l.fn.clients;
  there : (k : ℕ) → l.client ≤ k → get_or l.root.clients k false ≡ nat_lt k l.fn.clients;
  clerks : l.clerks ≡ fresh_clerks (names_in g.N.ClusterName.cluster) ((l.fn.clients - l.client) * l.fn.quota);
  members : l.members.items ≡ map (fresh_member g.N.ClusterName.cluster) (range_with_len 0 l.client);
}
