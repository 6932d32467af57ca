use Rattle.dealer.proofs.office.Office.draw.Given as goal

abbrev pub ghosts-take_ticket : goal.ghosts-take_ticket
ghosts-take_ticket a = record { amount = a.table.now.shared.key.quota }
