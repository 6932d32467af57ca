use Rattle.std.proofs.Common.{sym, ap, subst, ◌∙◌, length}
use Rattle.world_state.specs.Numbered.{IsNumbered}
use Rattle.world_state.specs.Steps.{WorldState}
use Rattle.world.specs.States.{saved_of}
use Rattle.world_state.specs.States.{contents_of, plans_of}
use Rattle.world.proofs.SavingSteps.{IsSavedWorld-steps}
use Rattle.world.proofs.saved.SavedWorld.step.Goals as goal

pub step-requires-clause-numbered : goal.step-requires-clause-numbered
step-requires-clause-numbered c =
    subst (λ (u : WorldState). IsNumbered u) (sym c.make_room.ensures.same) (c.saved_worlds_stay_sound.ensures.live _ c.self.invariant).numbered

pub step-requires-clause-stored : goal.step-requires-clause-stored
step-requires-clause-stored c = record {
  clients = c.self.invariant.led.clients ∙ ap (λ (u : WorldState). length u.clients) (sym c.make_room.ensures.same);
  voters = c.self.invariant.led.voters ∙ ap (λ (u : WorldState). length u.voters) (sym c.make_room.ensures.same);
}

pub invariant_of-self : goal.invariant_of-self
invariant_of-self c =
    IsSavedWorld-steps c.saved_worlds_stay_sound.ensures.happens (record { plans = plans_of c.self.inside.cycles; saved = saved_of c.self.inside.stored }) c.self.invariant
    (contents_of c.make_room.new.self) c.make_room.ensures.same c.args.step c.step.result (saved_of c.step.new.self) c.step.ensures
