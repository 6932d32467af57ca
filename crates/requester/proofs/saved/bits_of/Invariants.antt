use Rattle.std.proofs.Common.{drop}
use Rattle.requester.proofs.SavedLemmas.{Gathered}
use Rattle.requester.proofs.saved.bits_of.Given as goal

abbrev pub invariant-loop-v : goal.invariant-loop-v
invariant-loop-v l = Gathered l.members (drop l.v-index l.members) l.bits
