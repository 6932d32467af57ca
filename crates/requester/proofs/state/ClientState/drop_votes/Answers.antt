use Rattle.std.proofs.Common.{ℕ, List, ◌∙◌, ap, arith}
use Rattle.requester.proofs.Dropping.{held-dropped}
use Rattle.requester.proofs.state.ClientState.drop_votes.Goals as goal

pub returns : goal.returns
returns c =
    let self = c.args.self.now in
    c.loop-i.invariant.same ∙ ap (λ (held : List ℕ). record self { held = held }) (held-dropped self.quorum.items c.loop-i.self.held c.loop-i.i (omega arith) c.loop-i.invariant.dropped)
