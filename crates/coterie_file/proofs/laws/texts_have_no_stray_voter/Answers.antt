use Rattle.coterie_file.proofs.StrayLaws.{coterie_at-in_range}
use Rattle.coterie_file.proofs.laws.texts_have_no_stray_voter.Goals as goal

pub returns : goal.returns
returns c = coterie_at-in_range
