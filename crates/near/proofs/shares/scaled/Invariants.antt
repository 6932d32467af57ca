use Rattle.std.proofs.Common.{◌≡◌, ◌+◌, sum, vec_len}
use Rattle.near.proofs.shares.scaled.Given as goal

abbrev pub invariant-loop-share : goal.invariant-loop-share
invariant-loop-share l = (vec_len l.weights ≡ l.share-index) × (sum l.weights.items + l.left ≡ l.most)
