use Rattle.show_cli.proofs.compared.+coteries_of.Given as goal

abbrev pub decreases-coteries_of : goal.decreases-coteries_of
decreases-coteries_of l = l.lines
