use Rattle.fence.proofs.FenceLemmas.{Raised}
use Rattle.fence.proofs.fence.raise.Given as goal

abbrev pub invariant-loop-v : goal.invariant-loop-v
invariant-loop-v l = Raised l.fn.seen l.grants l.v l.seen
