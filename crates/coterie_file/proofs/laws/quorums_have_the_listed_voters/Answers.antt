use Rattle.coterie_file.proofs.ReadingLaws.{quorum_of-means}
use Rattle.coterie_file.proofs.laws.quorums_have_the_listed_voters.Goals as goal

pub returns : goal.returns
returns c = quorum_of-means
