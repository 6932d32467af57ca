use Rattle.std.proofs.Common.{sym, subst}
use Rattle.voter.specs.declared.state.VoterState.{VoterState}
use Rattle.voter.specs.Saved.{IsKept}
use Rattle.voter.proofs.KeptLemmas.{IsKept-reborn}
use Rattle.voter.proofs.voter.Voter.reborn.Goals as goal

pub invariant_of-result : goal.invariant_of-result
invariant_of-result c =
    subst (λ (v : VoterState). IsKept (record v { granted = c.args.above })) (sym c.new.ensures) (IsKept-reborn c.args.id c.args.above c.args.limit c.requires.id c.requires.above c.requires.most)
