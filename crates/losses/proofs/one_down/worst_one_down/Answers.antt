use Rattle.losses.proofs.one_down.worst_one_down.Goals as goal

pub loop-voter-preserved : goal.loop-voter-preserved
loop-voter-preserved c =
    c.worse_of-worst.ensures c.args.weights.now c.loop-voter.voter c.coterie.ensures.weights c.loop-voter.invariant c.left_without.ensures
