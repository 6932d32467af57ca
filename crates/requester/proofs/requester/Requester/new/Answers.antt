use Rattle.std.proofs.Common.{sym, subst}
use Rattle.requester.specs.Soundness.{IsSound}
use Rattle.requester.proofs.SoundSteps.{IsSound-start}
use Rattle.requester.proofs.requester.Requester.new.Goals as goal

pub invariant_of-result : goal.invariant_of-result
invariant_of-result c = subst IsSound (sym c.new.ensures) (IsSound-start c.args.id c.args.limit c.requires.id c.requires.least c.requires.most)
