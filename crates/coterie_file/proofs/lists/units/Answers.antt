use Rattle.coterie_file.proofs.CapacityLemmas.{one_more_unit}
use Rattle.coterie_file.proofs.lists.units.Goals as goal

pub loop-preserved : goal.loop-preserved
loop-preserved c = one_more_unit c.loop.counter c.loop.units.items c.push.new.self.items c.loop.invariant c.in_ok-push.ensures.items
