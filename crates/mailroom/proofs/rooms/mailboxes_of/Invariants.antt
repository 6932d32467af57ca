use Rattle.std.proofs.Common.{◌≡◌, length}
use Rattle.mailroom.specs.Rooms.{AreNumbered}
use Rattle.mailroom.proofs.rooms.mailboxes_of.Given as goal

abbrev pub invariant-loop-client : goal.invariant-loop-client
invariant-loop-client g l = (length l.mailboxes.items ≡ l.client) × AreNumbered l.mailboxes.items
