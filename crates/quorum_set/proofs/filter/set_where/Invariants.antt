use Rattle.std.proofs.Common.{◌≡◌, ◌<◌, ℕ, Bool}
use Rattle.quorum_set.proofs.FilterLemmas.{passed_below}
use Rattle.quorum_set.proofs.filter.set_where.Given as goal

abbrev pub invariant-loop-i : goal.invariant-loop-i
invariant-loop-i g l = (p : ℕ → Bool) → ((i : ℕ) (b : Bool) → i < 64 → goal.F-post g l.passes i b → b ≡ p i) → l.set ≡ passed_below p l.i
