use Rattle.words.proofs.WordLemmas.{one_reading}
use Rattle.words.proofs.laws.bytes_have_one_reading.Goals as goal

pub returns : goal.returns
returns c = one_reading
