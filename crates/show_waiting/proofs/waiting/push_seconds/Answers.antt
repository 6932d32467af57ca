use Rattle.show_waiting.proofs.waiting.push_seconds.Goals as goal

pub returns : goal.returns
returns c = rw (← c.rounds_of.ensures.value, ← c.patient_rounds.ensures.value) c.write.ensures.bytes
