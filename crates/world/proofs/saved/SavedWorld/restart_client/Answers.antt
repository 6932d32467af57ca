use Rattle.std.proofs.Common.{◌≡◌, List, sym, ap, ap₂, subst, ◌∙◌}
use Rattle.std.specs.Prelude.{slice_set}
use Rattle.std.specs.Vec.{with_items}
use Rattle.requester.specs.declared.state.ClientState.{ClientState}
use Rattle.world.specs.Restarts.{OneClient, Restarts}
use Rattle.world.specs.SavedWorlds.{IsSavedWorld, PlannedSaved, happens_by}
use Rattle.world.specs.States.{saved_of}
use Rattle.world_state.specs.States.{contents_of, plans_of}
use Rattle.world_state.specs.Steps.{client_at}
use Rattle.world_state.proofs.Acts.{with_items-items}
use Rattle.world.proofs.saved.SavedWorld.restart_client.Goals.{After-copy_client}
use Rattle.world.proofs.saved.SavedWorld.restart_client.Goals as goal

-- the world afterwards is the definition's
restarted : (c : After-copy_client)
    → ◌≡◌ {A = PlannedSaved} (record {
      plans = plans_of c.self.inside.cycles;
      saved = record (saved_of c.self.inside.stored) {
        live = record (contents_of c.self.inside.stored.state) { clients = (with_items c.self.inside.stored.state.clients c.copy_client.new.clients).items };
      };
    }) (happens_by (record { plans = plans_of c.self.inside.cycles; saved = saved_of c.self.inside.stored }) (Restarts (OneClient c.args.client)))
restarted c =
    let s = c.self.inside.stored in
    let wrote = c.copy_client.ensures ∙ ap₂ (λ (l m : List ClientState). slice_set l c.args.client (client_at m c.args.client)) c.deref_mut.ensures.value c.deref.ensures.value in
    ap (λ (l : List ClientState). record {
      plans = plans_of c.self.inside.cycles;
      saved = record (saved_of s) { live = record (contents_of s.state) { clients = l } };
    }) (with_items-items s.state.clients c.deref_mut.result.now c.copy_client.new.clients c.args.client _ c.deref_mut.ensures.value c.copy_client.ensures ∙ wrote)
    ∙ c.saved_worlds_stay_sound.ensures.restarts _ c.self.invariant c.args.client c.in_default.ensures.found

pub invariant_of-self : goal.invariant_of-self
invariant_of-self c =
    subst (λ (w : PlannedSaved). IsSavedWorld w) (sym (restarted (goal.at.invariant_of-self c).After-copy_client))
    (c.saved_worlds_stay_sound.ensures.happens _ (Restarts (OneClient c.args.client)) c.self.invariant tt)

pub returns-clause-restarted : goal.returns-clause-restarted
returns-clause-restarted c =
    let at = (goal.at.returns-clause-restarted c).After-copy_client in
    restarted at ∙ ap (λ (w : PlannedSaved). happens_by w (Restarts (OneClient c.args.client))) c.self.view_is
