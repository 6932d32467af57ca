use Rattle.std.proofs.Common.{◌++◌, List, ap, map, ◌∙◌}
use Rattle.message.specs.declared.message.ToVoter.{ToVoter}
use Rattle.message.specs.declared.message.Message.TheVariants as kinds
use Rattle.world_state.proofs.state.State.tell.Goals as goal

pub returns-clause-state : goal.returns-clause-state
returns-clause-state c = λ i. record {
  clients = c.args.self.now.clients.items;
  voters = c.args.self.now.voters.items;
  sent = (c.send_to_voters.ensures ∙ ap (λ (l : List ToVoter). c.args.self.now.sent.items ++ map kinds.ToVoter l) c.as_slice.ensures.value) i;
  draws = c.args.self.now.draws.items;
  draws2 = c.args.self.now.draws2.items;
  side = c.args.self.now.side;
  visible = c.note.ensures i;
}
