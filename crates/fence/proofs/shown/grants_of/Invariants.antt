use Rattle.fence.proofs.GrantLemmas.{Shows}
use Rattle.fence.proofs.shown.grants_of.Given as goal

abbrev pub invariant-loop-voter : goal.invariant-loop-voter
invariant-loop-voter l = Shows l.client l.voter l.grants
