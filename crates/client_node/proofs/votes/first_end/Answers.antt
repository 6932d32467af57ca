use Rattle.std.proofs.Common.{arith}
use Rattle.client_node.proofs.VoteLemmas.{most_first}
use Rattle.client_node.proofs.votes.first_end.Goals as goal

pub loop-voter-init : goal.loop-voter-init
loop-voter-init c = record {
  whole = most_first c.args.span c.args.request c.args.votes.now c.args.leases.now c.args.voters.now;
  fits = (omega arith);
}
