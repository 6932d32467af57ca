use Rattle.std.proofs.Common.{◌≡◌, ◌++◌, List, length, map, refl, sym, ap, ◌∙◌, Ok}
use Rattle.std.proofs.lemmas.List.{length-map}
use Rattle.message.specs.declared.message.ToVoter.{ToVoter}
use Rattle.message.specs.declared.message.Message.{Message}
use Rattle.message.specs.declared.message.Message.TheVariants as kinds
use Rattle.requester.specs.declared.state.ClientState.{ClientState}
use Rattle.requester.specs.Steps.{remind}
use Rattle.world_state.specs.States.{contents_of}
use Rattle.world_state.specs.Steps.{client_at, step}
use Rattle.world_state.proofs.Acts.{say-outcome}
use Rattle.world_state.proofs.Refused.{if_client-below, if_client-missing, no_memory, refuses}
use Rattle.world_state.proofs.state.State.remind_client.Goals as goal

pub returns-in-Some : goal.returns-in-Some
unfolding step
returns-in-Some c = λ deal. (refuses _ _ (if_client-missing c.args.client (length c.args.self.now.clients.items) _ c.in-Some.fault c.in-Some.ensures.missing), refl)

pub returns-then-not-room : goal.returns-then-not-room
unfolding step
returns-then-not-room c = λ deal. (no_memory _ _ (if_client-below c.args.client (length c.args.self.now.clients.items) _ c.in_default.ensures.found), refl)

pub returns : goal.returns
unfolding step
returns c = λ deal.
    let out : c.remind-reminders.result.items ≡ remind (client_at c.args.self.now.clients.items c.args.client) =
    c.remind-reminders.ensures ∙ ap (λ (x : ClientState). remind x) (c.client_of.ensures ∙ ap (λ (l : List ClientState). client_at l c.args.client) c.deref.ensures.value) in
    if_client-below c.args.client (length c.args.self.now.clients.items) _ c.in_default.ensures.found
    ∙ ap (λ o. Ok o) (say-outcome (contents_of c.args.self.now) (map kinds.ToVoter (remind (client_at c.args.self.now.clients.items c.args.client))) c.len.result _
    (c.len.ensures.value ∙ ap (λ (l : List ToVoter). length l) out ∙ sym (length-map (remind (client_at c.args.self.now.clients.items c.args.client)) kinds.ToVoter))
    (ap (λ (l : List Message). record (contents_of c.args.self.now) { sent = l })
    (c.send_to_voters.ensures ∙ ap (λ (l : List ToVoter). c.args.self.now.sent.items ++ map kinds.ToVoter l) (c.as_slice.ensures.value ∙ out))))
