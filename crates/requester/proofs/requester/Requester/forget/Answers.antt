use Rattle.std.proofs.Common.{sym, subst}
use Rattle.requester.specs.Soundness.{IsSound}
use Rattle.requester.proofs.SavedLemmas.{least_is_sound}
use Rattle.requester.proofs.requester.Requester.forget.Goals as goal

pub invariant_of-self : goal.invariant_of-self
invariant_of-self c = subst IsSound (sym c.forget.ensures) (least_is_sound c.self.inside.state c.self.invariant)
