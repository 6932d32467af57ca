use Rattle.std.proofs.Common.{rules}
use Rattle.voter_node.specs.LeftOut.{HaveSameLeast}
use Rattle.lock_blocks.proofs.LockLemmas.{marked}
use Rattle.lock_blocks.proofs.locks.show.Goals as goal

pub returns : goal.returns
returns c = λ before id limit held granted.
    let by = marked c.has_changed.result c.mark-shown.result (HaveSameLeast before c.args.after.now) c.mark-shown.ensures (c.has_changed.ensures before id limit held granted) in
    record { must = by.0; need_not = by.1; stamp = search rules; finished = search rules; held = search rules }
