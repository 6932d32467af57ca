use Rattle.envelope.proofs.LockLemmas.{cut_off, says_cut_off}
use Rattle.envelope.proofs.laws.lines_are_cut_off.Goals as goal

pub returns-clause-lines : goal.returns-clause-lines
returns-clause-lines c = cut_off

pub returns-clause-says : goal.returns-clause-says
returns-clause-says c = says_cut_off
