use Rattle.std.proofs.Common.{◌∙◌, sym, arith}
use Rattle.std.proofs.lemmas.Grind.{same_number_lists}
use Rattle.fence.proofs.shown.grants_of.Goals as goal

pub returns : goal.returns
returns c =
    let at = c.loop-voter.invariant in
    same_number_lists c.loop-voter.grants c.args.client.now.held (at.places ∙ sym c.requires) (λ v within. at.done v (let len = at.places in omega arith))
