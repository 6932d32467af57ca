use Rattle.std.proofs.Common.{ap, sym, ◌∙◌, refl, Some, subst}
use Rattle.voter.specs.declared.state.VoterState.{VoterState}
use Rattle.voter.specs.Saved.{IsKept}
use Rattle.voter.specs.Steps.{outcome_of, step}
use Rattle.voter.proofs.Grants.{KeepsBut-outcome_of}
use Rattle.voter.proofs.Effects.{step-refused, step-taken}
use Rattle.voter.proofs.KeptLemmas.{IsKept-step}
use Rattle.voter.proofs.voter.Voter.take_into.Goals as goal

pub returns-then-is_refused-clause-refused : goal.returns-then-is_refused-clause-refused
returns-then-is_refused-clause-refused c =
    (sym (ap (λ v. step v c.args.message.now) c.self.view_is) ∙ step-refused c.self.inside.state c.args.message.now c.self.invariant.sound (sym c.if-is_refused.ensures), refl, c.clear.ensures)

pub invariant_of-self : goal.invariant_of-self
invariant_of-self c =
    subst IsKept (sym c.act.ensures.state) (IsKept-step c.self.inside.state c.args.message.now (outcome_of c.self.inside.state c.args.message.now.client c.args.message.now.body)
    c.self.invariant c.requires.client (step-taken c.self.inside.state c.args.message.now c.self.invariant.sound (sym c.if-is_refused.ensures)))

pub returns-clause-taken : goal.returns-clause-taken
returns-clause-taken c =
    sym (ap (λ v. step v c.args.message.now) c.self.view_is) ∙ step-taken c.self.inside.state c.args.message.now c.self.invariant.sound (sym c.if-is_refused.ensures)
    ∙ (λ i. Some (record { replies = sym c.act.ensures.replies i; state = sym c.act.ensures.state i }))

pub returns-clause-id : goal.returns-clause-id
returns-clause-id c =
    ap (λ (v : VoterState). v.id) c.act.ensures.state ∙ (KeepsBut-outcome_of c.self.inside.state c.args.message.now.client c.args.message.now.body).id ∙ ap (λ (v : VoterState). v.id) c.self.view_is
