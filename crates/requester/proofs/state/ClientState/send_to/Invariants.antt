use Rattle.std.proofs.Common.{◌≡◌, take, map}
use Rattle.requester.specs.Steps.{tell}
use Rattle.requester.proofs.state.ClientState.send_to.Given as goal

abbrev pub invariant-loop-v : goal.invariant-loop-v
invariant-loop-v l = l.out.items ≡ map (λ v. tell l.self v l.body) (take l.v-index l.voters)
