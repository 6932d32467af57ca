use Rattle.std.proofs.Common.{Bool, sym, subst}
use Rattle.world_state.specs.declared.step.Step.{Step}
use Rattle.world_state.specs.States.{plans_of, contents_of}
use Rattle.world_state.specs.Steps.{Does, dealing_of, exchange, step}
use Rattle.world_state.proofs.state.State.act.Goals as goal

pub returns-in-Exchange : goal.returns-in-Exchange
unfolding step
returns-in-Exchange c =
    let w = contents_of c.args.self.now in
    subst (λ (s : Step). Does (step (dealing_of (plans_of c.args.cycles.now)) w s) w c.exchange.result (contents_of c.exchange.new.self)) (sym c.in-Exchange.is)
    (subst (λ (two : Bool). Does (exchange two c.args.self.now.side w) w c.exchange.result (contents_of c.exchange.new.self)) c.are_two.ensures c.exchange.ensures)

pub returns-in-Leave : goal.returns-in-Leave
unfolding step
returns-in-Leave c =
    let w = contents_of c.args.self.now in
    subst (λ (s : Step). Does (step (dealing_of (plans_of c.args.cycles.now)) w s) w c.end.result (contents_of c.end.new.self)) (sym c.in-Leave.is) c.end.ensures

pub returns-in-GiveUp : goal.returns-in-GiveUp
unfolding step
returns-in-GiveUp c =
    let w = contents_of c.args.self.now in
    subst (λ (s : Step). Does (step (dealing_of (plans_of c.args.cycles.now)) w s) w c.end-in-GiveUp.result (contents_of c.end-in-GiveUp.new.self)) (sym c.in-GiveUp.is) c.end-in-GiveUp.ensures
