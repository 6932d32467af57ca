use Rattle.construct.proofs.shapes.tree.+quorums_under.Given as goal

abbrev pub decreases-quorums_under : goal.decreases-quorums_under
decreases-quorums_under l = l.h
