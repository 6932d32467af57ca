use Rattle.std.proofs.Common.{◌≡◌, ◌≤◌, ◌+◌, List, ℕ, length, take}
use Rattle.std.specs.List.{suffix_len}
use Rattle.numbers.specs.Sets.{has}
use Rattle.show_failures.proofs.groups.without_end.Given as goal

-- the bytes behind the end all pass
pub record IsEnd (text bytes : List ℕ) (end : ℕ) : Type 0 where
  pub within : end ≤ length text
  pub behind : end + suffix_len (has bytes) text ≡ length text + suffix_len (has bytes) (take end text)

abbrev pub invariant-loop-end : goal.invariant-loop-end
invariant-loop-end l = IsEnd l.text l.bytes l.end

abbrev pub decreases-loop-end : goal.decreases-loop-end
decreases-loop-end l = l.end
