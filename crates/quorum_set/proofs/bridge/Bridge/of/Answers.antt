use Rattle.std.proofs.Common.{sym}
use Rattle.quorum_set.proofs.BridgeLemmas.{first_apart-None}
use Rattle.quorum_set.proofs.bridge.Bridge.of.Goals as goal

pub invariant_of-result : goal.invariant_of-result
invariant_of-result c = rw (c.in_ok-copy-in-None.ensures.value, c.in_ok-copy-in-None-2.ensures.value) (record {
  first = c.quorums.ensures.coterie;
  second = c.quorums-2.ensures.coterie;
  same_voters = c.requires;
  meets = first_apart-None 0 _ _ (rw (c.quorums.ensures.value, c.quorums-2.ensures.value) at (sym c.in-None.ensures));
})
