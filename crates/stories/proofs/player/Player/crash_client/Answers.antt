use Rattle.std.proofs.Common.{List, ℕ, ap, ap₂, ◌∙◌}
use Rattle.world.specs.SavedWorlds.{PlannedSaved}
use Rattle.stories.specs.declared.turn.Turn.TheVariants.{CrashClient}
use Rattle.stories.specs.Plays.{Scene, guard_of, play}
use Rattle.stories.proofs.PlayLemmas.{refused_crash}
use Rattle.stories.proofs.player.Player.crash_client.Goals as goal

pub returns-in_ok-happening-in-Err-clause-played : goal.returns-in_ok-happening-in-Err-clause-played
returns-in_ok-happening-in-Err-clause-played c =
    let old = c.self.inside in
    let s : Scene = record { world = old.world; calm = old.calm; clients = old.clients.items; voters = old.voters.items; passes = old.passes.items; guard = guard_of old.fence } in
    ap₂ (λ (w : PlannedSaved) (l : List ℕ). record s { world = w; clients = l }) c.in-Err.ensures.unchanged c.clear_count.ensures
    ∙ refused_crash s c.args.client c.in-Err.fault c.in-Err.ensures.refused c.in_ok-happening-in-Err.ensures.other
    ∙ ap (λ (u : Scene). play u (CrashClient c.args.client)) c.self.view_is
