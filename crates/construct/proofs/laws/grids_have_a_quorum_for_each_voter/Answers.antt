use Rattle.construct.proofs.GridLemmas.{length-grid_quorums, grid_quorums-at}
use Rattle.construct.proofs.laws.grids_have_a_quorum_for_each_voter.Goals as goal

pub returns-clause-number : goal.returns-clause-number
returns-clause-number c = length-grid_quorums

pub returns-clause-place : goal.returns-clause-place
returns-clause-place c = grid_quorums-at
