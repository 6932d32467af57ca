use Rattle.std.proofs.Common.{◌<◌, sum, get_or, sym, ap, ◌∙◌, subst, arith}
use Rattle.certificate.specs.Certificates.{Weighted, cycle_len}
use Rattle.dealer.specs.Cycles.{cycle_of, round_of}
use Rattle.dealer.specs.Blocks.{AreInOrder, IsPlaceIn}
use Rattle.dealer.specs.declared.rounds.Block.{Block}
use Rattle.dealer.proofs.BlockLemmas.{AreInOrder-blocks, named_in_block}
use Rattle.dealer.proofs.MadeBlocks.{quorums_from-block}
use Rattle.dealer.proofs.cycle.Cycle.named_at.Goals as goal

pub place_in-number-requires : goal.place_in-number-requires
place_in-number-requires c =
    let is = c.self.invariant in
    subst AreInOrder (sym c.deref.ensures.value) (AreInOrder-blocks c.self.inside.plan.quorum_weights c.self.inside.blocks.items is.in_blocks is.certificate.some_quorum)

pub quorum_in-requires-clause-listed : goal.quorum_in-requires-clause-listed
quorum_in-requires-clause-listed c =
    let is = c.self.invariant in
    (quorums_from-block c.self.inside.plan.quorum_weights c.self.inside.blocks.items c.deref-2.result.now c.place_in-number.result.0 c.index.result.now is.in_blocks
    (c.deref-2.ensures.value ∙ is.quorums) (omega arith) c.index.ensures).1

pub returns : goal.returns
returns c =
    let is = c.self.invariant in
    let weights = c.self.inside.plan.quorum_weights in
    let blocks = c.self.inside.blocks.items in
    let found = c.place_in-number.result in
    let b = c.index.result.now in
    let lt : c.args.place < sum weights = omega (arith, c.requires, ap (λ (w : Weighted). cycle_len w) c.self.view_is) in
    let in_blocks = subst (λ bs. IsPlaceIn bs c.args.place found) c.deref.ensures.value c.place_in-number.ensures in
    let listed = quorums_from-block weights blocks c.deref-2.result.now found.0 b is.in_blocks (c.deref-2.ensures.value ∙ is.quorums) (omega arith) c.index.ensures in
    c.quorum_in.ensures
    ∙ ap (λ xs. get_or xs found.1 0) (listed.0 ∙ ap (λ (k : Block). round_of weights k.least) c.index.ensures)
    ∙ sym (named_in_block weights blocks c.args.place found b is.in_blocks lt in_blocks)
    ∙ ap (λ (w : Weighted). get_or (cycle_of w.quorum_weights) c.args.place 0) c.self.view_is
