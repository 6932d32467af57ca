use Rattle.test_members.proofs.closes.fault_of.Given as goal

abbrev pub ghosts-fault_with_one_gone : goal.ghosts-fault_with_one_gone
ghosts-fault_with_one_gone a = record { cluster = a.blank }
