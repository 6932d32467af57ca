use Rattle.std.proofs.Common.{arith}
use Rattle.ways.proofs.Clients.{IsFree-from_each}
use Rattle.ways.proofs.rounds.is_busy.Goals as goal

pub returns : goal.returns
returns c = IsFree-from_each c.args.world.now.state c.loop-client.client (let all = c.clients-client-end.ensures.value in omega arith) c.loop-client.invariant
