use Rattle.std.proofs.Common.{◌≤◌, sym, subst, arith}
use Rattle.voter.specs.declared.state.VoterState.{VoterState}
use Rattle.voter.proofs.KeptLemmas.{IsKept-counted}
use Rattle.voter.proofs.voter.Voter.extend.Goals as goal

pub invariant_of-self : goal.invariant_of-self
invariant_of-self c =
    let v = c.self.inside.state in
    let was = c.self.invariant.sound.granted in
    let more = subst (λ (w : VoterState). w.limit ≤ c.args.limit) (sym c.self.view_is) c.requires.least in
    IsKept-counted v v.granted c.args.limit c.self.invariant (omega arith) (omega arith) c.requires.most
