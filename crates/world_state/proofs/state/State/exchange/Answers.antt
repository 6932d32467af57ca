use Rattle.std.proofs.Common.{refl}
use Rattle.world_state.specs.States.{contents_of}
use Rattle.world_state.proofs.Refused.{refuses}
use Rattle.world_state.proofs.state.State.exchange.Goals as goal

pub returns-in-Some : goal.returns-in-Some
returns-in-Some c = (refuses _ _ (c.in-Some.ensures.missing (contents_of c.args.self.now)), refl)
