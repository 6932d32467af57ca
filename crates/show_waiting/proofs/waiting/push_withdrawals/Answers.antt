use Rattle.show_waiting.proofs.waiting.push_withdrawals.Goals as goal

pub returns : goal.returns
returns c = rw (← c.withdrawals_of-withdrawals.ensures.value) c.write.ensures.bytes
