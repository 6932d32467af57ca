use Rattle.std.proofs.Common.{◌≤◌, sym, subst}
use Rattle.voter.specs.declared.state.VoterState.{VoterState}
use Rattle.voter.proofs.KeptLemmas.{IsKept-counted}
use Rattle.voter.proofs.voter.Voter.raise.Goals as goal

pub invariant_of-self : goal.invariant_of-self
invariant_of-self c =
    let v = c.self.inside.state in
    let more = subst (λ (w : VoterState). w.granted ≤ c.args.above) (sym c.self.view_is) c.requires.least in
    let most = subst (λ (w : VoterState). c.args.above ≤ w.limit) (sym c.self.view_is) c.requires.most in
    IsKept-counted v c.args.above v.limit c.self.invariant more most c.self.invariant.sound.limit
