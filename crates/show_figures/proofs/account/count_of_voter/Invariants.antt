use Rattle.std.proofs.Common.{◌≡◌, take}
use Rattle.quorum_set.specs.Counts.{count_of}
use Rattle.show_figures.proofs.account.count_of_voter.Given as goal

abbrev pub invariant-loop-quorum : goal.invariant-loop-quorum
invariant-loop-quorum l = l.count ≡ count_of l.coterie l.voter (take l.quorum-index l.list)
