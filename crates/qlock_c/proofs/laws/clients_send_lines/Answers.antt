use Rattle.qlock_c.proofs.ClientLines.{clients_can_be_read}
use Rattle.qlock_c.proofs.laws.clients_send_lines.Goals as goal

pub returns : goal.returns
returns c = clients_can_be_read
