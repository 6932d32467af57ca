use Rattle.std.proofs.Common.{◌≡◌, vec_len}
use Rattle.simplex.proofs.method.slacks.Given as goal

abbrev pub invariant-loop-voter : goal.invariant-loop-voter
invariant-loop-voter l = vec_len l.columns ≡ l.voter
