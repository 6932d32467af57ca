use Rattle.std.proofs.Common.{◌≡◌}
use Rattle.vote_leases.specs.Leases.{asked}
use Rattle.client_node.specs.Locks.{all_asked}
use Rattle.client_node.proofs.VoteLemmas.{changed_to}
use Rattle.client_node.proofs.votes.ask_all.Given as goal

abbrev pub invariant-loop-vote : goal.invariant-loop-vote
invariant-loop-vote l = changed_to (λ v. asked v l.request) l.vote-index l.votes ≡ all_asked l.fn.votes l.request
