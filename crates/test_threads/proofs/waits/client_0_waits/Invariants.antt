use Rattle.test_threads.proofs.waits.client_0_waits.Given as goal

abbrev pub ghosts-waited_by : goal.ghosts-waited_by
ghosts-waited_by g a = record { cluster = a.blank }
