use Rattle.std.proofs.Common.{false, ap, subst, ◌∙◌}
use Rattle.incidents.specs.declared.fault.IncidentFault.{IncidentFault}
use Rattle.incidents.specs.Calls.{RefusesEviction}
use Rattle.world.specs.SavedWorlds.{PlannedSaved}
use Rattle.stories.specs.declared.turn.Turn.TheVariants.{Evict}
use Rattle.stories.specs.Plays.{Scene, guard_of, play}
use Rattle.stories.proofs.PlayLemmas.{kept_played}
use Rattle.stories.proofs.player.Player.evict.Goals as goal

pub returns-in_ok-happening-in-Err-World-clause-played : goal.returns-in_ok-happening-in-Err-World-clause-played
returns-in_ok-happening-in-Err-World-clause-played c =
    let old = c.self.inside in
    let s : Scene = record { world = old.world; calm = old.calm; clients = old.clients.items; voters = old.voters.items; passes = old.passes.items; guard = guard_of old.fence } in
    ap (λ (w : PlannedSaved). record s { world = w; calm = false }) c.in-Err-World.ensures.unchanged
    ∙ kept_played s c.args.voter c.in-Err-World.fault (subst (λ (f : IncidentFault). RefusesEviction s.world.saved c.args.voter f) c.in-Err-World.field-0-is c.in-Err-World.ensures.refused) c.in_ok-happening-in-Err-World.ensures.other
    ∙ ap (λ (u : Scene). play u (Evict c.args.voter)) c.self.view_is
