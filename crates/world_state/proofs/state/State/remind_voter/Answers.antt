use Rattle.std.proofs.Common.{◌≡◌, ◌++◌, List, length, map, refl, sym, ap, ◌∙◌, Ok}
use Rattle.std.proofs.lemmas.List.{length-map}
use Rattle.message.specs.declared.message.ToClient.{ToClient}
use Rattle.message.specs.declared.message.Message.{Message}
use Rattle.message.specs.declared.message.Message.TheVariants as kinds
use Rattle.voter.specs.declared.state.VoterState.{VoterState}
use Rattle.voter.specs.Steps.{remind}
use Rattle.world_state.specs.States.{contents_of}
use Rattle.world_state.specs.Steps.{voter_at, step}
use Rattle.world_state.proofs.Acts.{say-outcome}
use Rattle.world_state.proofs.Refused.{if_voter-below, if_voter-missing, no_memory, refuses}
use Rattle.world_state.proofs.state.State.remind_voter.Goals as goal

pub returns-in-Some : goal.returns-in-Some
unfolding step
returns-in-Some c = λ deal. (refuses _ _ (if_voter-missing c.args.voter (length c.args.self.now.voters.items) _ c.in-Some.fault c.in-Some.ensures.missing), refl)

pub returns-then-not-room : goal.returns-then-not-room
unfolding step
returns-then-not-room c = λ deal. (no_memory _ _ (if_voter-below c.args.voter (length c.args.self.now.voters.items) _ c.in_default.ensures.found), refl)

pub returns : goal.returns
unfolding step
returns c = λ deal.
    let out : c.remind-reminders.result.items ≡ remind (voter_at c.args.self.now.voters.items c.args.voter) =
    c.remind-reminders.ensures ∙ ap (λ (x : VoterState). remind x) (c.voter_of.ensures ∙ ap (λ (l : List VoterState). voter_at l c.args.voter) c.deref.ensures.value) in
    if_voter-below c.args.voter (length c.args.self.now.voters.items) _ c.in_default.ensures.found
    ∙ ap (λ o. Ok o) (say-outcome (contents_of c.args.self.now) (map kinds.ToClient (remind (voter_at c.args.self.now.voters.items c.args.voter))) c.len.result _
    (c.len.ensures.value ∙ ap (λ (l : List ToClient). length l) out ∙ sym (length-map (remind (voter_at c.args.self.now.voters.items c.args.voter)) kinds.ToClient))
    (ap (λ (l : List Message). record (contents_of c.args.self.now) { sent = l })
    (c.send_to_clients.ensures ∙ ap (λ (l : List ToClient). c.args.self.now.sent.items ++ map kinds.ToClient l) (c.as_slice.ensures.value ∙ out))))
