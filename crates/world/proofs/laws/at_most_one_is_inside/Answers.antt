use Rattle.world.proofs.laws.at_most_one_is_inside.Goals as goal

pub returns : goal.returns
returns c = λ voters clients limit quorums deal steps limits meets deals. (c.runs_are_sound.ensures voters clients limit quorums deal steps limits meets deals).exclusive
