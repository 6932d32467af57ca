use Rattle.demo_members.proofs.holds.line_of.Given as goal

abbrev pub ghosts-outcome_of : goal.ghosts-outcome_of
ghosts-outcome_of g a = record { cluster = a.blank }
