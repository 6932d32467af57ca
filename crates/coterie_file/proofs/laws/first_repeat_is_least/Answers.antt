use Rattle.std.proofs.Common.{[], arith}
use Rattle.coterie_file.proofs.NameLaws.{first_repeat-means}
use Rattle.coterie_file.proofs.laws.first_repeat_is_least.Goals as goal

pub returns : goal.returns
returns c = λ names. first_repeat-means [] names (λ i j d lt l. absurd (omega arith))
