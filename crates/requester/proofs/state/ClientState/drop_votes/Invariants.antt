use Rattle.std.proofs.Common.{◌≡◌, ◌<◌, drop}
use Rattle.std.specs.List.{AllByRecursion}
use Rattle.requester.proofs.Dropping.{HeldOfRest}
use Rattle.requester.proofs.state.ClientState.drop_votes.Given as goal

abbrev pub invariant-loop-i : goal.invariant-loop-i
invariant-loop-i l = record {
  same : l.self ≡ record l.fn.self { held = l.self.held };
  small : AllByRecursion (λ v. v < 64) (drop l.i l.fn.self.quorum.items);
  dropped : HeldOfRest (drop l.i l.fn.self.quorum.items) l.self.held;
}
