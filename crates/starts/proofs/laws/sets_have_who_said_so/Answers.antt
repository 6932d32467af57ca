use Rattle.starts.proofs.Masks.{answered_counts, kept_said}
use Rattle.starts.proofs.laws.sets_have_who_said_so.Goals as goal

pub returns-clause-kept : goal.returns-clause-kept
returns-clause-kept c = kept_said

pub returns-clause-answered : goal.returns-clause-answered
returns-clause-answered c = answered_counts
