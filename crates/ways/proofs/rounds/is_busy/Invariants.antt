use Rattle.std.proofs.Common.{◌≡◌, ◌<◌, ℕ, false}
use Rattle.requester.specs.Words.{is_inside}
use Rattle.world_state.specs.Steps.{client_at}
use Rattle.ways.proofs.rounds.is_busy.Given as goal

abbrev pub invariant-loop-client : goal.invariant-loop-client
invariant-loop-client l = (c : ℕ) → c < l.client → is_inside (client_at l.world.state.clients c).phase ≡ false
