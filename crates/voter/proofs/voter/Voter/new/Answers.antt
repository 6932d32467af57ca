use Rattle.std.proofs.Common.{sym, subst}
use Rattle.voter.specs.Saved.{IsKept}
use Rattle.voter.proofs.KeptLemmas.{IsKept-start}
use Rattle.voter.proofs.voter.Voter.new.Goals as goal

pub invariant_of-result : goal.invariant_of-result
invariant_of-result c = subst IsKept (sym c.new.ensures) (IsKept-start c.args.id c.args.limit c.requires.id c.requires.most)
