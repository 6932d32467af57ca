use Rattle.std.proofs.Common.{sym, subst}
use Rattle.requester.specs.declared.state.ClientState.{ClientState}
use Rattle.requester.specs.Soundness.{IsSound}
use Rattle.requester.proofs.SoundSteps.{IsSound-anew}
use Rattle.requester.proofs.requester.Requester.anew.Goals as goal

pub invariant_of-result : goal.invariant_of-result
invariant_of-result c =
    subst (λ (x : ClientState). IsSound (record x { clock = c.args.clock; stamp = c.args.clock })) (sym c.new.ensures)
    (IsSound-anew c.args.id c.args.limit c.args.clock c.requires.id c.requires.least c.requires.most c.requires.clock)
