use Rattle.std.proofs.Common.{List, sym, ap, subst, ◌∙◌, ◌++◌, ◌∷◌, []}
use Rattle.world.specs.WayIn.{Helps}
use Rattle.world_state.specs.declared.step.Step.{Step}
use Rattle.world_state.specs.Steps.{dealing_of}
use Rattle.ways.specs.Leads.{Leads}
use Rattle.ways.proofs.Leading.{LeadFurther-none, Leads-more}
use Rattle.ways.proofs.Staying.{entered_event, helps_stays}
use Rattle.ways.proofs.make.make.Goals as goal

pub went_by-requires-clause-stays : goal.went_by-requires-clause-stays
went_by-requires-clause-stays c = helps_stays (dealing_of c.args.world.now.plans) c.args.first c.args.world.now.state c.args.step _ c.requires c.in-Ok.ensures.stepped

pub went_by-requires-clause-event : goal.went_by-requires-clause-event
went_by-requires-clause-event c = entered_event (dealing_of c.args.world.now.plans) c.args.world.now.state c.args.step _ c.in-Ok.ensures.stepped

pub returns-in-Ok : goal.returns-in-Ok
returns-in-Ok c = λ old first on.
    let kept = c.push_reserved.ensures.items ∙ ap (λ (items : List Step). items ++ c.args.step ∷ []) c.reserve.ensures.items in
    subst (λ (items : List Step). Leads old c.went_by.result c.step.new.self items) (sym kept)
    (Leads-more old c.args.world.now c.step.new.self c.args.steps.now.items c.args.step c.in-Ok.stepped c.went_by.result
    on (subst (λ n. Helps n c.args.step) first c.requires) c.in-Ok.ensures.stepped c.in-Ok.ensures.plans
    c.went_by.ensures.nothing c.went_by.ensures.entered
    (helps_stays (dealing_of c.args.world.now.plans) c.args.first c.args.world.now.state c.args.step _ c.requires c.in-Ok.ensures.stepped))

pub returns-in-Err-OutOfMemory : goal.returns-in-Err-OutOfMemory
returns-in-Err-OutOfMemory c = LeadFurther-none c.args.first c.args.world.now c.step.new.self c.args.steps.now.items c.reserve.new.self.items c.in-Err-OutOfMemory.ensures.unchanged c.reserve.ensures.items
