use Rattle.test_texts.proofs.faults.faults_of_closed_clusters.Given as goal

abbrev pub ghosts-is_missing_once_open : goal.ghosts-is_missing_once_open
ghosts-is_missing_once_open g a = record { cluster = a.blank }
