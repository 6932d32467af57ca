use Rattle.std.proofs.Common.{arith, get_or}
use Rattle.std.proofs.lemmas.Nat.{one_shl}
use Rattle.requester.proofs.Members.{all_below-from_Ascends}
use Rattle.requester.proofs.SavedLemmas.{Gathered-more, word_of-below}
use Rattle.requester.proofs.saved.bits_of.Goals as goal

pub loop-v-init : goal.loop-v-init
loop-v-init c = record { small = all_below-from_Ascends 0 c.args.members.now c.requires; whole = omega arith }

pub overflow_add-bits : goal.overflow_add-bits
overflow_add-bits c =
    let more = Gathered-more c.args.members.now c.loop-v.bits c.loop-v.v-index c.loop-v-test.true c.loop-v.invariant in
    omega (arith, more.1, one_shl (get_or c.args.members.now c.loop-v.v-index 0) 64 more.0, word_of-below c.args.members.now c.requires)
