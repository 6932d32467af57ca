use Rattle.std.proofs.Common.{List, sym, subst}
use Rattle.world_state.specs.declared.step.Event.{Event}
use Rattle.world.specs.Visible.{IsExclusive}
use Rattle.world.proofs.saved.SavedWorld.visible.Goals as goal

pub returns-clause-exclusive : goal.returns-clause-exclusive
returns-clause-exclusive c =
    subst (λ (l : List Event). IsExclusive l) (sym c.deref.ensures.value) (c.saved_worlds_stay_sound.ensures.live _ c.self.invariant).exclusive
