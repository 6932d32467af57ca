use Rattle.show_waiting.proofs.waiting.push_fair_rounds.Goals as goal

pub returns : goal.returns
returns c = rw (← c.rounds_of-rounds.ensures.value, ← c.longest_wait-longest.ensures.value, ← c.tested-tested.ensures) c.write.ensures.bytes
