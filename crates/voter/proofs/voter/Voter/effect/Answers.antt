use Rattle.std.proofs.Common.{ap, sym, ◌∙◌}
use Rattle.std.specs.Prelude.{not}
use Rattle.voter.specs.declared.state.VoterState.{VoterState}
use Rattle.voter.specs.Steps.{effect_of}
use Rattle.voter.proofs.Effects.{effect_of-refused, effect_of-taken}
use Rattle.voter.proofs.voter.Voter.effect.Goals as goal

pub returns-then-not-refused : goal.returns-then-not-refused
returns-then-not-refused c =
    (λ i. record { frees = c.ends_grant.ensures i; refused = c.if-not-refused.true i })
    ∙ sym (effect_of-taken c.self.inside.state c.args.message.now c.self.invariant.sound (sym c.is_refused-refused.ensures ∙ c.if-not-refused.true))
    ∙ ap (λ (v : VoterState). effect_of v c.args.message.now) c.self.view_is

pub returns-else-not-refused : goal.returns-else-not-refused
returns-else-not-refused c =
    (λ i. record { frees = not (c.if-not-refused.false i); refused = c.if-not-refused.false i })
    ∙ sym (effect_of-refused c.self.inside.state c.args.message.now c.self.invariant.sound (sym c.is_refused-refused.ensures ∙ c.if-not-refused.false))
    ∙ ap (λ (v : VoterState). effect_of v c.args.message.now) c.self.view_is
