use Rattle.std.proofs.Common.{◌≡◌, drop}
use Rattle.client_node.specs.Locks.{all_noted}
use Rattle.client_node.proofs.votes.note_all.Given as goal

abbrev pub invariant-loop-message : goal.invariant-loop-message
invariant-loop-message l = all_noted l.votes (drop l.message-index l.messages) ≡ all_noted l.fn.votes l.messages
