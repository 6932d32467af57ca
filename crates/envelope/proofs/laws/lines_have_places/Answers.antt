use Rattle.envelope.proofs.LockLemmas.{line_places, lock_place}
use Rattle.envelope.proofs.laws.lines_have_places.Goals as goal

pub returns-clause-lines : goal.returns-clause-lines
returns-clause-lines c = line_places

pub returns-clause-says : goal.returns-clause-says
returns-clause-says c = lock_place
