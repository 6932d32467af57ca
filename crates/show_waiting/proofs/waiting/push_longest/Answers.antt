use Rattle.show_waiting.proofs.waiting.push_longest.Goals as goal

pub returns : goal.returns
returns c = rw (← c.longest_wait.ensures.value) c.write.ensures.bytes
