use Rattle.lease_clock.proofs.ClockLemmas.{sound_so}
use Rattle.lease_clock.proofs.clock.LeaseClock.send.Goals as goal

pub invariant_of-self : goal.invariant_of-self
invariant_of-self c = sound_so _ c.args.now c.add.new.markers.items c.max.result c.self.invariant c.add.ensures.added c.max.ensures
