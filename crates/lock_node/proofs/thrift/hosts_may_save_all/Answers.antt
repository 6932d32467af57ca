use Rattle.lock_node.proofs.ThriftLemmas.{all_ends, all_events, all_letters, all_lives, may_all}
use Rattle.lock_node.proofs.thrift.hosts_may_save_all.Goals as goal

pub returns-clause-ends : goal.returns-clause-ends
returns-clause-ends c = all_ends

pub returns-clause-may : goal.returns-clause-may
returns-clause-may c = may_all

pub returns-clause-events : goal.returns-clause-events
returns-clause-events c = all_events

pub returns-clause-letters : goal.returns-clause-letters
returns-clause-letters c = all_letters

pub returns-clause-lives : goal.returns-clause-lives
returns-clause-lives c = all_lives
