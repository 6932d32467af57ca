use Rattle.std.proofs.Common.{◌≡◌, vec_len}
use Rattle.simplex.proofs.candidate.quorum_weights.Given as goal

abbrev pub invariant-loop-row : goal.invariant-loop-row
invariant-loop-row l = vec_len l.weights ≡ l.quorums
