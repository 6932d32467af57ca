use Rattle.test_members.proofs.scripts.stuck_at.Given as goal

abbrev pub ghosts-opened : goal.ghosts-opened
ghosts-opened g a = record { cluster = a.blank }
