use Rattle.std.proofs.Common.{arith}
use Rattle.ways.proofs.Clients.{leads-all}
use Rattle.ways.proofs.rounds.leader.Goals as goal

pub returns : goal.returns
returns c = leads-all c.args.world.now.state c.loop-client.client c.loop-client.first (let all = c.clients-client-end.ensures.value in omega arith) c.loop-client.invariant
