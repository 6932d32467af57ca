use Rattle.std.proofs.Common.{true, ◌≡◌, subst}
use Rattle.requester.specs.Steps.{Outcome}
use Rattle.client_node.specs.Locks.{is_had_inside}
use Rattle.client_node.proofs.Sound.{had_took}
use Rattle.client_node.proofs.lock.LockClient.take.Goals as goal

pub invariant_of-self : goal.invariant_of-self
invariant_of-self c =
    subst (λ (o : Outcome). is_had_inside o.state c.self.inside.calls.holder ≡ true) c.take_into-seen.ensures.taken
    (had_took c.self.inside.client c.args.message.now c.self.inside.calls.holder c.self.invariant)
