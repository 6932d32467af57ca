use Rattle.std.proofs.Common.{◌≡◌, ◌⊎◌, None, drop}
use Rattle.requester.specs.Words.{members}
use Rattle.node.proofs.VoteLemmas.{Compared}
use Rattle.node.proofs.votes.give_back.Given as goal

abbrev pub invariant-loop-voter : goal.invariant-loop-voter
invariant-loop-voter l = record {
  items : l.voter-items ≡ members l.requester;
  compared : Compared l.board.voters (drop l.voter-index l.voter-items) l.requester.held l.seat.held;
  table : l.seat.table ≡ l.initial.seat.table;
  client : l.seat.client ≡ l.initial.seat.client;
  passes : l.seat.passes ≡ l.initial.seat.passes;
  idle : l.initial.seat.held ≡ l.requester.held → l.seat ≡ l.initial.seat;
  reading : (l.seat ≡ l.initial.seat) ⊎ (l.seat.reading ≡ None);
}
