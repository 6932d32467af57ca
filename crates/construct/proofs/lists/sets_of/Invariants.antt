use Rattle.std.proofs.Common.{◌≡◌, ◌++◌, ◌<◌, ◌≤◌, length, map}
use Rattle.std.specs.List.{All, range_with_len}
use Rattle.itertools.specs.Pool.{combination_left}
use Rattle.construct.specs.Majority.{sets_from}
use Rattle.construct.proofs.Combinations.{moved}
use Rattle.construct.proofs.lists.sets_of.Given as goal

abbrev pub invariant-loop-members : goal.invariant-loop-members
invariant-loop-members l = record {
  pool : l.members-iterator.pool.items ≡ range_with_len l.low l.n;
  together : l.sets.items ++ map (moved l.low) (combination_left l.members-iterator) ≡ sets_from l.low l.n l.size;
  below : All (λ places. All (λ i. i < l.n) places) (combination_left l.members-iterator);
  few : length l.sets.items ≤ 4096;
}
