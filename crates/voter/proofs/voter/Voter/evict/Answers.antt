use Rattle.std.proofs.Common.{◌≡◌, ap, sym, subst, ◌∙◌, Some, None, Option}
use Rattle.std.specs.Prelude.{IfErr, IfOk}
use Rattle.voter.specs.declared.state.VoterState.{VoterState}
use Rattle.voter.specs.Leases.{evict}
use Rattle.voter.specs.Steps.{Outcome, step}
use Rattle.voter.proofs.EvictLemmas.{evict-current, evict-none, evict-other}
use Rattle.voter.proofs.voter.Voter.evict.Goals as goal
use Rattle.voter.proofs.voter.Voter.evict.Goals.{After-take, in_default-via-in-Some+else-held-grant, in_default-via-in_default}

-- an eviction is the step of the release
is_step : (c : After-take) → evict c.args.self.now c.args.grant ≡ step c.args.self.now c.release_of-message.result
is_step c =
    evict-current c.args.self.now c.in-Some.held c.args.grant (ap (λ (v : VoterState). v.held) (sym c.self.view_is) ∙ c.in-Some.is) c.if-held-grant.true
    ∙ ap (step c.args.self.now) (sym c.release_of-message.ensures)

pub returns-in-Some-clause-evicted : goal.returns-in-Some-clause-evicted
returns-in-Some-clause-evicted c =
    subst (λ (o : Option Outcome). IfOk c.take.result (λ replies. o ≡ Some (record { replies = replies.items; state = c.take.new.self }))) (sym (is_step c)) c.take.ensures.taken

pub returns-in-Some-clause-refused : goal.returns-in-Some-clause-refused
returns-in-Some-clause-refused c =
    subst (λ (o : Option Outcome). IfErr c.take.result (λ _. (o ≡ None) × (c.take.new.self ≡ c.args.self.now))) (sym (is_step c)) c.take.ensures.refused

pub returns-in_default-clause-evicted : goal.returns-in_default-clause-evicted
returns-in_default-clause-evicted c =
    let held = ap (λ (v : VoterState). v.held) (sym c.self.view_is) in
    elim c.in_default.branch [
      | in_default-via-in-Some+else-held-grant w ↦ evict-other c.args.self.now w.in-Some.held c.args.grant (held ∙ w.in-Some.is) w.if-held-grant.false ∙ (λ i. Some (record { replies = sym c.new.ensures i; state = c.args.self.now }))
      | in_default-via-in_default w ↦ evict-none c.args.self.now c.args.grant (held ∙ w.in_default.is) ∙ (λ i. Some (record { replies = sym c.new.ensures i; state = c.args.self.now }))
    ]
