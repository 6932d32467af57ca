use Rattle.std.proofs.Common.{refl}
use Rattle.lock_blocks.proofs.StateLemmas.{length-voter}
use Rattle.lock_blocks.proofs.saved_bytes.load_voter.Goals as goal

pub returns-then-state-ne-STATE_BYTES-clause-refused : goal.returns-then-state-ne-STATE_BYTES-clause-refused
returns-then-state-ne-STATE_BYTES-clause-refused c = (refl, λ it is. c.if-state-ne-STATE_BYTES.true (length-voter c.args.state.now it is))
