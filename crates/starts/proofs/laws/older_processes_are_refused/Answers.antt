use Rattle.starts.proofs.LawLemmas.{refuses, refuses_saved, takes_once}
use Rattle.starts.proofs.laws.older_processes_are_refused.Goals as goal

pub returns-clause-refused : goal.returns-clause-refused
returns-clause-refused c = refuses

pub returns-clause-saved : goal.returns-clause-saved
returns-clause-saved c = refuses_saved

pub returns-clause-once : goal.returns-clause-once
returns-clause-once c = takes_once
