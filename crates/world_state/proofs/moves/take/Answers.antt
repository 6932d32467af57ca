use Rattle.std.proofs.Common.{◌≡◌, ap, sym, ◌∙◌, refl, get_or, Ok}
use Rattle.requester.specs.declared.state.ClientState.{ClientState}
use Rattle.requester.specs.Steps.{start, step}
use Rattle.requester.specs.Steps.Cause.{Takes}
use Rattle.world_state.specs.Steps.{client_at}
use Rattle.world_state.proofs.Items.{moved_at, others_at, seen_at}
use Rattle.world_state.proofs.moves.take.Goals as goal

pub take_into-requires-clause-client : goal.take_into-requires-clause-client
unfolding client_at
take_into-requires-clause-client c =
    sym c.requires.id ∙ ap (λ (a : ClientState). a.id) (seen_at (start 0 1) (λ a. a ≡ get_or c.args.clients.now c.from.result c.index-clients-from.result) c.args.clients.now
    c.from.result c.args.message.now.client
    c.index-clients-from.result c.from.ensures c.requires.client c.index-clients-from.is refl)

pub returns-clause-taken : goal.returns-clause-taken
unfolding client_at step
returns-clause-taken c =
    moved_at (start 0 1) (λ a b. step a (Takes c.args.message.now) ≡ Ok (record { out = c.take_into.new.out.items; seen = c.take_into.result; state = b }))
    c.args.clients.now c.from.result c.args.message.now.client c.index-clients-from.result c.take_into.new.self c.from.ensures c.requires.client c.index-clients-from.is
    (ap (λ o. Ok o) c.take_into.ensures.taken)

pub returns-clause-others : goal.returns-clause-others
unfolding client_at
returns-clause-others c = others_at (start 0 1) c.args.clients.now c.from.result c.args.message.now.client c.take_into.new.self c.from.ensures c.requires.client
