use Rattle.std.proofs.Common.{◌≡◌}
use Rattle.requester.specs.declared.state.ClientState.{ClientState}
use Rattle.requester.specs.Steps.{start}
use Rattle.world_state.specs.Steps.{client_at}
use Rattle.world_state.proofs.Items.{seen_at}
use Rattle.world_state.proofs.moves.client_of.Goals as goal

pub returns : goal.returns
unfolding client_at
returns c =
    seen_at (start 0 1) (λ (a : ClientState). c.index-clients-from.result ≡ a) c.args.clients.now c.from.result c.args.number c.index-clients-from.result c.from.ensures
    c.requires c.index-clients-from.is
    c.index-clients-from.is
