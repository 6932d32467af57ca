use Rattle.std.proofs.Common.{arith}
use Rattle.whole_io.proofs.device.read_input.Goals as goal

pub returns-clause-unread : goal.returns-clause-unread
returns-clause-unread g c = (c.reading.input.items, omega arith, c.reading.invariant.read)
