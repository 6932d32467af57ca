use Rattle.std.proofs.Common.{◌≡◌, ◌<◌, ℕ, true}
use Rattle.requester.specs.Saved.{is_vote_sound}
use Rattle.requester.proofs.state.ClientState.are_votes_sound.Given as goal

abbrev pub invariant-loop-v : goal.invariant-loop-v
invariant-loop-v l = (u : ℕ) → u < l.v → is_vote_sound l.self u ≡ true
