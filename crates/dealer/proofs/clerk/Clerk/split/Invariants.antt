use Rattle.dealer.proofs.clerk.Clerk.split.Given as goal

abbrev pub ghosts-split_off : goal.ghosts-split_off
ghosts-split_off a = record { amount = a.amount }
