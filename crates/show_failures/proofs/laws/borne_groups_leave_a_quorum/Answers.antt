use Rattle.show_failures.proofs.WithoutLemmas.{Bears_by_test, borne_by_a_quorum}
use Rattle.show_failures.proofs.laws.borne_groups_leave_a_quorum.Goals as goal

pub returns : goal.returns
returns c = λ quorums failed. (Bears_by_test quorums failed, borne_by_a_quorum quorums failed)
