use Rattle.lock_node.proofs.ThriftAsked.{thrifty_reaches}
use Rattle.lock_node.proofs.ThriftLemmas.{like_itself, like_turns, thrifty_given_out}
use Rattle.lock_node.proofs.thrift.processes_may_leave_saves_out.Goals as goal

pub returns-clause-asked : goal.returns-clause-asked
returns-clause-asked c = thrifty_reaches

pub returns-clause-given_out : goal.returns-clause-given_out
returns-clause-given_out c = thrifty_given_out

pub returns-clause-lives : goal.returns-clause-lives
returns-clause-lives c = λ n ts lock may. like_turns n ts lock (n.locks lock) may (like_itself (n.locks lock))
