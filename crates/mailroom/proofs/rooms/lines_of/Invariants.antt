use Rattle.std.proofs.Common.{◌≡◌, length}
use Rattle.mailroom.specs.Rooms.{AreNumbered}
use Rattle.mailroom.proofs.rooms.lines_of.Given as goal

abbrev pub invariant-loop-voter : goal.invariant-loop-voter
invariant-loop-voter l = (length l.lines.items ≡ l.voter) × AreNumbered l.lines.items
