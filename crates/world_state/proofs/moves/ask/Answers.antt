use Rattle.std.proofs.Common.{◌≡◌, Ok, Err, []}
use Rattle.std.specs.Prelude.{IfOk}
use Rattle.requester.specs.declared.fault.ClientFault.{ClientFault}
use Rattle.requester.specs.declared.state.ClientState.{ClientState}
use Rattle.requester.specs.Steps.{start, step}
use Rattle.requester.specs.Steps.Cause.{Asks}
use Rattle.world_state.specs.Steps.{client_at}
use Rattle.world_state.proofs.Items.{moved_at, others_at, refused_at}
use Rattle.world_state.proofs.moves.ask.Goals as goal

pub returns-clause-asked : goal.returns-clause-asked
unfolding client_at step
returns-clause-asked c =
    moved_at (start 0 1) (λ a b. IfOk c.ask_into.result (λ seen. step a (Asks c.args.quorum.now) ≡ Ok (record { out = c.ask_into.new.out.items; seen = seen; state = b })))
    c.args.clients.now c.from.result c.args.client c.index-clients-from.result c.ask_into.new.self c.from.ensures c.requires.client c.index-clients-from.is c.ask_into.ensures.asked

pub returns-clause-refused : goal.returns-clause-refused
unfolding client_at step
returns-clause-refused c =
    refused_at (start 0 1) (λ (a : ClientState) (fault : ClientFault). step a (Asks c.args.quorum.now) ≡ Err fault) (c.ask_into.new.out.items ≡ []) c.ask_into.result
    c.args.clients.now c.from.result c.args.client c.index-clients-from.result c.ask_into.new.self c.from.ensures c.requires.client c.index-clients-from.is c.ask_into.ensures.refused

pub returns-clause-others : goal.returns-clause-others
unfolding client_at
returns-clause-others c = others_at (start 0 1) c.args.clients.now c.from.result c.args.client c.ask_into.new.self c.from.ensures c.requires.client
