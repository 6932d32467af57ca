use Rattle.replay.proofs.check.ticket_fault.Goals as goal

pub returns-in-Some : goal.returns-in-Some
returns-in-Some c = c.ticket_fault.ensures c.args.tickets.items c.in-Some.ensures
