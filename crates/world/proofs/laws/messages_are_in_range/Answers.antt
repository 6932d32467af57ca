use Rattle.world.proofs.laws.messages_are_in_range.Goals as goal

pub returns : goal.returns
returns c = λ voters clients limit quorums deal steps limits meets deals. (c.runs_are_sound.ensures voters clients limit quorums deal steps limits meets deals).in_range
