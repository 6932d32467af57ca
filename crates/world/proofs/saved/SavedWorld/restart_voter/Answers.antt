use Rattle.std.proofs.Common.{List, sym, ap₂, subst, ◌∙◌}
use Rattle.std.specs.Prelude.{slice_set}
use Rattle.voter.specs.declared.state.VoterState.{VoterState}
use Rattle.world.specs.Restarts.{OneVoter, Restarts}
use Rattle.world.specs.SavedWorlds.{IsSavedWorld}
use Rattle.world.specs.States.{saved_of}
use Rattle.world_state.specs.States.{contents_of, plans_of}
use Rattle.world_state.specs.Steps.{voter_at}
use Rattle.world_state.proofs.Acts.{with_items-items}
use Rattle.world.proofs.saved.SavedWorld.restart_voter.Goals as goal

pub invariant_of-self : goal.invariant_of-self
invariant_of-self c =
    let s = c.self.inside.stored in
    let wrote = c.copy_voter.ensures ∙ ap₂ (λ (l m : List VoterState). slice_set l c.args.voter (voter_at m c.args.voter)) c.deref_mut.ensures.value c.deref.ensures.value in
    subst (λ (l : List VoterState). IsSavedWorld (record {
      plans = plans_of c.self.inside.cycles;
      saved = record (saved_of s) { live = record (contents_of s.state) { voters = l } };
    })) (sym (with_items-items s.state.voters c.deref_mut.result.now c.copy_voter.new.voters c.args.voter _ c.deref_mut.ensures.value c.copy_voter.ensures ∙ wrote))
    (c.saved_worlds_stay_sound.ensures.happens _ (Restarts (OneVoter c.args.voter)) c.self.invariant tt)
