use Rattle.own_stamps.proofs.StampLemmas.{none_known, none_late}
use Rattle.own_stamps.proofs.laws.earlier_runs_count_no_more.Goals as goal

pub returns-clause-known : goal.returns-clause-known
returns-clause-known c = none_known

pub returns-clause-late : goal.returns-clause-late
returns-clause-late c = none_late
