use Rattle.std.proofs.Common.{sym, ◌∙◌}
use Rattle.requester.specs.Saved.{is_vote_sound}
use Rattle.requester.proofs.state.ClientState.are_votes_sound.Goals as goal
use Rattle.numbers.proofs.Lists.{below_next}

pub loop-v-preserved : goal.loop-v-preserved
loop-v-preserved c = below_next (is_vote_sound c.args.self.now) c.loop-v.v c.loop-v.invariant (sym c.is_vote_sound.ensures ∙ c.if-not-is_vote_sound.false)
