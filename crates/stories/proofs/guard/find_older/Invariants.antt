use Rattle.std.proofs.Common.{◌≡◌, ℕ, ◌<◌, true}
use Rattle.fence.specs.Passes.{is_not_older}
use Rattle.stories.proofs.guard.find_older.Given as goal

-- none of the voters so far has an older grant
abbrev pub invariant-loop-voter : goal.invariant-loop-voter
invariant-loop-voter l = (u : ℕ) → u < l.voter → is_not_older l.seen l.grants u ≡ true
