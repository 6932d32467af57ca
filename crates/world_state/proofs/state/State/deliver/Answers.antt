use Rattle.std.proofs.Common.{Some, sym, ap, subst, ◌∙◌, refl}
use Rattle.message.specs.declared.message.Message.{Message}
use Rattle.world_state.specs.States.{contents_of}
use Rattle.world_state.specs.Steps.{Does, come, step}
use Rattle.world_state.proofs.Addressed.{ForClient-sent, ForVoter-sent}
use Rattle.world_state.proofs.Refused.{refuses}
use Rattle.world_state.proofs.state.State.deliver.Goals as goal

pub returns-in-None : goal.returns-in-None
unfolding step
returns-in-None c = λ deal. (refuses _ _ (ap (λ (o : _). come (contents_of c.args.self.now) c.args.number o) (sym c.message.ensures ∙ c.in-None.is)), refl)

pub vote-requires : goal.vote-requires
vote-requires c = let is = ForVoter-sent (contents_of c.args.self.now) c.requires.numbered c.args.number c.in-Some-ToVoter.message (sym c.message.ensures ∙ c.in-Some-ToVoter.is
    ∙ ap (λ (m : Message). Some m) c.in-Some-ToVoter.field-0-is) in
    record { room = c.requires.room; voter = is.voter; id = is.id; client = is.client }

pub take-requires : goal.take-requires
take-requires c = let is = ForClient-sent (contents_of c.args.self.now) c.requires.numbered c.args.number c.in-Some-ToClient.message (sym c.message.ensures ∙ c.in-Some-ToClient.is
    ∙ ap (λ (m : Message). Some m) c.in-Some-ToClient.field-0-is) in
    record { room = c.requires.room; client = is.client; id = is.id; voter = is.voter }

pub returns-in-Some-ToVoter : goal.returns-in-Some-ToVoter
unfolding step
returns-in-Some-ToVoter c = λ deal.
    subst (λ x. Does x (contents_of c.args.self.now) c.vote.result (contents_of c.vote.new.self))
    (sym (ap (λ (o : _). come (contents_of c.args.self.now) c.args.number o) (sym c.message.ensures ∙ c.in-Some-ToVoter.is ∙ ap (λ (m : Message). Some m) c.in-Some-ToVoter.field-0-is))) c.vote.ensures

pub returns-in-Some-ToClient : goal.returns-in-Some-ToClient
unfolding step
returns-in-Some-ToClient c = λ deal.
    subst (λ x. Does x (contents_of c.args.self.now) c.take.result (contents_of c.take.new.self))
    (sym (ap (λ (o : _). come (contents_of c.args.self.now) c.args.number o) (sym c.message.ensures ∙ c.in-Some-ToClient.is ∙ ap (λ (m : Message). Some m) c.in-Some-ToClient.field-0-is))) c.take.ensures
