use Rattle.qlock_cli.proofs.run.record_of_run.Given as goal

abbrev pub ghosts-run_blank : goal.ghosts-run_blank
ghosts-run_blank g a = record { cluster = a.blank }
