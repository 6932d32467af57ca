use Rattle.std.proofs.Common.{sym, ap, ◌∙◌}
use Rattle.requester.specs.declared.state.ClientState.{ClientState}
use Rattle.ways.proofs.Clients.{client_at_found, client_at_none}
use Rattle.ways.proofs.rounds.stamp_of.Goals as goal

pub returns-in-Some : goal.returns-in-Some
returns-in-Some c = c.stamp.ensures.value ∙ sym (ap (λ (x : ClientState). x.stamp) (client_at_found _ _ _ c.in-Some.ensures))

pub returns-in-None : goal.returns-in-None
returns-in-None c = sym (ap (λ (x : ClientState). x.stamp) (client_at_none _ _ c.in-None.ensures))
