use Rattle.std.proofs.Common.{◌≡◌}
use Rattle.test_protocol.proofs.requesters.vote_that_is_given_back_is_won_again_and_released.Given as goal

abbrev pub invariant-loop-row : goal.invariant-loop-row
invariant-loop-row g l = l.client.id ≡ 0
