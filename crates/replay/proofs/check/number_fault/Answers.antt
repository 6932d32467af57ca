use Rattle.replay.proofs.check.number_fault.Goals as goal

pub returns-in-Some : goal.returns-in-Some
returns-in-Some c = c.number_fault.ensures c.args.numbers.items c.in-Some.ensures
