use Rattle.client_node.proofs.Sound.{had_asked}
use Rattle.client_node.proofs.lock.LockClient.ask.Goals as goal

pub invariant_of-self-2 : goal.invariant_of-self-2
invariant_of-self-2 c =
    had_asked c.self.inside.client c.args.quorum.now
    (record { out = c.ask_into.new.out.items; seen = c.in_ok-seen.seen; state = c.ask_into.new.self })
    c.self.inside.calls.holder c.self.invariant c.in_ok-seen.ensures.asked
