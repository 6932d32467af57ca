use Rattle.std.proofs.Common.{◌≡◌, drop}
use Rattle.std.specs.Prelude.{◌||◌}
use Rattle.std.specs.List.{list_any}
use Rattle.requester.specs.Words.{is_failed, is_relinquished, is_hindered}
use Rattle.requester.proofs.state.ClientState.is_hindered.Given as goal

abbrev pub invariant-loop-v : goal.invariant-loop-v
invariant-loop-v l = list_any (λ v. is_failed l.self v || is_relinquished l.self v) (drop l.v-index l.v-items) ≡ is_hindered l.self
