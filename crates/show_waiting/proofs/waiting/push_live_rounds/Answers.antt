use Rattle.show_waiting.proofs.waiting.push_live_rounds.Goals as goal

pub returns : goal.returns
returns c = rw (← c.rounds_of-rounds.ensures.value) c.write.ensures.bytes
