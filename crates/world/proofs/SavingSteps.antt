-- a step that saves, and then sends, as the code makes it
use Rattle.std.proofs.Common.{◌≡◌, Result, Ok, Err, sym, ap, subst, ◌∙◌}
use Rattle.world_state.specs.declared.fault.WorldFault.{WorldFault}
use Rattle.world_state.specs.declared.step.Step.{Step}
use Rattle.world_state.specs.declared.step.Stepped.{Stepped}
use Rattle.world.specs.Restarts.{Goes, Happening, Saved, happens}
use Rattle.world.specs.SavedWorlds.{IsSavedWorld, LosesNothing, PlannedSaved, SavesAndSends, happens_by}
use Rattle.world_state.specs.Steps.{WorldState, dealing_of}

-- what the code's step makes of a saved world, in which there was room, is one again
pub IsSavedWorld-steps : ((w : PlannedSaved) (h : Happening) → IsSavedWorld w → LosesNothing h → IsSavedWorld (happens_by w h)) → (w : PlannedSaved) → IsSavedWorld w
    → (roomy : WorldState) → roomy ≡ w.saved.live → (st : Step) (r : Result Stepped WorldFault) (new : Saved)
    → SavesAndSends (dealing_of w.plans) (record w.saved { live = roomy }) st r new → IsSavedWorld (record w { saved = new })
IsSavedWorld-steps all w is roomy same st (Ok s) new did =
    let on = did.1 ∙ ap (λ (u : WorldState). happens (dealing_of w.plans) (record w.saved { live = u }) (Goes st)) same in
    subst (λ (n : Saved). IsSavedWorld (record w { saved = n })) (sym on) (all w (Goes st) is tt)
IsSavedWorld-steps all w is roomy same st (Err fault) new did =
    subst (λ (n : Saved). IsSavedWorld (record w { saved = n })) (sym (did.1 ∙ ap (λ (u : WorldState). record w.saved { live = u }) same)) is
