use Rattle.std.proofs.Common.{sym, ◌∙◌}
use Rattle.world_state.specs.States.{contents_of, plans_of}
use Rattle.world_state.specs.Steps.{dealing_of, outcome_of}
use Rattle.world.proofs.Mixes.{same_lengths}
use Rattle.world.proofs.stored.Stored.step.Goals as goal

pub save_unless-requires : goal.save_unless-requires
save_unless-requires c =
    let same =
    same_lengths (dealing_of (plans_of c.args.cycles.now)) (contents_of c.args.self.now.state) c.args.step (outcome_of c.in-Ok.stepped (contents_of c.act.new.self)) c.in-Ok.ensures in
    record { clients = c.requires.stored.clients ∙ sym same.0; voters = c.requires.stored.voters ∙ sym same.1 }
