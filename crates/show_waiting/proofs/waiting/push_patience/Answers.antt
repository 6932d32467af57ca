use Rattle.show_waiting.proofs.waiting.push_patience.Goals as goal

pub returns : goal.returns
returns c = rw (← c.patient_rounds-rounds.ensures.value) c.write.ensures.bytes
