use Rattle.std.proofs.Common.{arith, rules}
use Rattle.lease_clock.proofs.SavedLemmas.{slots_done, slots_go}
use Rattle.lease_clock.proofs.saved.slots_of.Goals as goal

pub loop-slot-preserved : goal.loop-slot-preserved
loop-slot-preserved c = record {
  len = search rules;
  words = slots_go c.loop-slot.words.items c.push.new.self.items c.push-in-loop-slot.new.self.items c.loop-slot.slot c.args.markers.now c.marker_at-marker.result (omega arith)
      c.marker_at-marker.ensures c.push.ensures.items c.push-in-loop-slot.ensures.items c.loop-slot.invariant.words;
}

pub returns-clause-words : goal.returns-clause-words
returns-clause-words c = slots_done c.loop-slot.words.items c.loop-slot.slot c.args.markers.now (omega arith) c.loop-slot.invariant.words
