use Rattle.std.proofs.Common.{◌≡◌}
use Rattle.vote_leases.specs.Leases.{ended}
use Rattle.client_node.specs.Locks.{all_ended}
use Rattle.client_node.proofs.VoteLemmas.{changed_to}
use Rattle.client_node.proofs.votes.end_all.Given as goal

abbrev pub invariant-loop-vote : goal.invariant-loop-vote
invariant-loop-vote l = changed_to (λ v. ended v l.request) l.vote-index l.votes ≡ all_ended l.fn.votes l.request
