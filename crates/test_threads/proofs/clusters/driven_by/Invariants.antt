use Rattle.test_threads.proofs.clusters.driven_by.Given as goal

abbrev pub ghosts-ended : goal.ghosts-ended
ghosts-ended g a = record { cluster = a.blank }
