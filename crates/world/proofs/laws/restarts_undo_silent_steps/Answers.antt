use Rattle.world.proofs.Mixes.{every_world_is_led}
use Rattle.world.proofs.laws.restarts_undo_silent_steps.Goals as goal

pub returns : goal.returns
returns c = every_world_is_led c.parts_keep_their_rules.ensures.clients c.parts_keep_their_rules.ensures.voters
