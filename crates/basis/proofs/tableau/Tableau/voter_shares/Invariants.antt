use Rattle.std.proofs.Common.{◌≡◌, vec_len}
use Rattle.basis.proofs.tableau.Tableau.voter_shares.Given as goal

abbrev pub invariant-loop-voter : goal.invariant-loop-voter
invariant-loop-voter l = vec_len l.shares ≡ l.voter
