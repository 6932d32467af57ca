use Rattle.std.proofs.Common.{◌≡◌, ◌<◌, ◌≤◌, ◌+◌, ◌++◌, drop, length}
use Rattle.std.specs.List.{AllByRecursion, flat_map}
use Rattle.requester.specs.Steps.{remind_member}
use Rattle.requester.proofs.state.ClientState.remind.Given as goal

abbrev pub invariant-loop-v : goal.invariant-loop-v
invariant-loop-v l = record {
  rest : l.out.items ++ flat_map (remind_member l.self) (drop l.v-index l.v-items) ≡ flat_map (remind_member l.self) l.self.quorum.items;
  small : AllByRecursion (λ v. v < 64) (drop l.v-index l.v-items);
  len : length l.out.items ≤ l.v-index + l.v-index;
  items : l.v-items ≡ l.self.quorum.items;
}
