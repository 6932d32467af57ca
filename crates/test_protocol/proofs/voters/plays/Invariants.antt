use Rattle.std.proofs.Common.{◌≡◌}
use Rattle.test_protocol.proofs.voters.plays.Given as goal

abbrev pub invariant-loop-line : goal.invariant-loop-line
invariant-loop-line l = l.voter.id ≡ 0
