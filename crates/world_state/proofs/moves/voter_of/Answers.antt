use Rattle.std.proofs.Common.{◌≡◌}
use Rattle.voter.specs.declared.state.VoterState.{VoterState}
use Rattle.voter.specs.Steps.{start}
use Rattle.world_state.specs.Steps.{voter_at}
use Rattle.world_state.proofs.Items.{seen_at}
use Rattle.world_state.proofs.moves.voter_of.Goals as goal

pub returns : goal.returns
unfolding voter_at
returns c =
    seen_at (start 0 1) (λ (a : VoterState). c.index-voters-from.result ≡ a) c.args.voters.now c.from.result c.args.number c.index-voters-from.result c.from.ensures c.requires c.index-voters-from.is
    c.index-voters-from.is
