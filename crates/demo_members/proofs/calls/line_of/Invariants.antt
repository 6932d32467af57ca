use Rattle.demo_members.proofs.calls.line_of.Given as goal

abbrev pub ghosts-opened : goal.ghosts-opened
ghosts-opened g a = record { cluster = a.blank }
