use Rattle.std.proofs.Common.{◌≡◌, Ok, Err, []}
use Rattle.std.specs.Prelude.{IfOk}
use Rattle.requester.specs.declared.fault.ClientFault.{ClientFault}
use Rattle.requester.specs.declared.state.ClientState.{ClientState}
use Rattle.requester.specs.Steps.{start, step}
use Rattle.world_state.specs.States.{cause_of}
use Rattle.world_state.specs.Steps.{client_at}
use Rattle.world_state.proofs.Items.{moved_at, others_at, refused_at}
use Rattle.world_state.proofs.moves.end.Goals as goal

pub returns-clause-ended : goal.returns-clause-ended
unfolding client_at
returns-clause-ended c =
    moved_at (start 0 1) (λ a b. IfOk c.end_of.result (λ seen. step a (cause_of c.args.ending) ≡ Ok (record { out = c.end_of.new.out.items; seen = seen; state = b })))
    c.args.clients.now c.from.result c.args.client c.index-clients-from.result c.end_of.new.who c.from.ensures c.requires.client c.index-clients-from.is c.end_of.ensures.ended

pub returns-clause-refused : goal.returns-clause-refused
unfolding client_at
returns-clause-refused c =
    refused_at (start 0 1) (λ (a : ClientState) (fault : ClientFault). step a (cause_of c.args.ending) ≡ Err fault) (c.end_of.new.out.items ≡ []) c.end_of.result
    c.args.clients.now c.from.result c.args.client c.index-clients-from.result c.end_of.new.who c.from.ensures c.requires.client c.index-clients-from.is c.end_of.ensures.refused

pub returns-clause-others : goal.returns-clause-others
unfolding client_at
returns-clause-others c = others_at (start 0 1) c.args.clients.now c.from.result c.args.client c.end_of.new.who c.from.ensures c.requires.client
