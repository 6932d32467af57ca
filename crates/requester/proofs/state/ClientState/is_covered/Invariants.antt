use Rattle.std.proofs.Common.{◌≡◌, drop}
use Rattle.std.specs.List.{list_all}
use Rattle.requester.specs.Words.{holds}
use Rattle.requester.proofs.state.ClientState.is_covered.Given as goal

abbrev pub invariant-loop-v : goal.invariant-loop-v
invariant-loop-v l = record {
  rest : list_all (holds l.self) (drop l.v-index l.v-items) ≡ list_all (holds l.self) l.v-items;
  items : l.v-items ≡ l.self.quorum.items;
}
