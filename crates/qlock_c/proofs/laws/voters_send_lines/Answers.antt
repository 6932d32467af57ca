use Rattle.qlock_c.proofs.ReplyLines.{voters_can_be_read}
use Rattle.qlock_c.proofs.laws.voters_send_lines.Goals as goal

pub returns : goal.returns
returns c = voters_can_be_read
