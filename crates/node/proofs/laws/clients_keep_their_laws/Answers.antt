use Rattle.node.proofs.laws.clients_keep_their_laws.Goals as goal

pub returns : goal.returns
returns c = record {
  of_members = c.phases_show_votes.ensures.of_members;
  fresh = c.messages_move_votes.ensures.would_hold;
  others = c.messages_move_votes.ensures.others;
}
