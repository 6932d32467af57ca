use Rattle.test_members.proofs.forged.passes_and_closes.Given as goal

abbrev pub ghosts-record_of : goal.ghosts-record_of
ghosts-record_of g a = record { cluster = a.blank }
