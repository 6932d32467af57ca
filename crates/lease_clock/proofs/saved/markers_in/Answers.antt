use Rattle.std.proofs.Common.{arith}
use Rattle.lease_clock.proofs.SavedLemmas.{all_read}
use Rattle.lease_clock.proofs.saved.markers_in.Goals as goal

pub returns-clause-read : goal.returns-clause-read
returns-clause-read c = λ first last ms ordered few is.
    all_read c.loop-slot.markers.items ms c.args.words.now c.loop-slot.slot first last (omega arith) (omega arith) c.loop-slot.invariant.markers ordered few is
