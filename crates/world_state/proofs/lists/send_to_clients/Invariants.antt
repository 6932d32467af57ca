use Rattle.std.proofs.Common.{◌≡◌, ◌+◌, ◌≤◌, ◌++◌, take, map, length, vec_len}
use Rattle.std.specs.Prelude.{vec_capacity}
use Rattle.message.specs.declared.message.Message.TheVariants as kinds
use Rattle.world_state.proofs.lists.send_to_clients.Given as goal

abbrev pub invariant-loop-message : goal.invariant-loop-message
invariant-loop-message l = record {
  heard : l.sent.items ≡ l.fn.sent.items ++ map kinds.ToClient (take l.message-index l.messages);
  len : vec_len l.sent ≡ vec_len l.fn.sent + l.message-index;
  room : vec_len l.fn.sent + length l.messages ≤ vec_capacity l.sent;
}
