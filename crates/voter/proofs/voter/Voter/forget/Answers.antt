use Rattle.std.proofs.Common.{sym, subst}
use Rattle.voter.specs.Saved.{IsKept}
use Rattle.voter.proofs.KeptLemmas.{IsKept-least}
use Rattle.voter.proofs.voter.Voter.forget.Goals as goal

pub invariant_of-self : goal.invariant_of-self
invariant_of-self c = subst IsKept (sym c.forget.ensures) (IsKept-least c.self.inside.state c.self.invariant)
